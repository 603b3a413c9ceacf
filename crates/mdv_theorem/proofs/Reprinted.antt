-- Two prints of one run tell volumes of one table, but for what the lines in between may have made of it.
use Rattle.std.proofs.Common.{◌≡◌, ℕ, List, [], ◌∷◌, ◌++◌, Some, refl, ◌∙◌, ap, subst}
use Rattle.std.proofs.lemmas.List.{append-nil}
use Rattle.mdv_base.specs.declared.name.Named.{Named}
use Rattle.mdv_base.specs.declared.refusal.Refusal.{Refusal}
use Rattle.mdv_engine_law.specs.Commands.{Effect}
use Rattle.mdv_engine_law.specs.Line.{Kept, Memory, Stays}
use Rattle.mdv_engine_law.specs.Replies.{refusal_line, text_of}
use Rattle.mdv_engine_law.specs.declared.answer.Answer.{Answer}
use Rattle.mdv_engine_law.specs.declared.host.Host.{Host}
use Rattle.mdv_listing.specs.Listing.{listing_of}
use Rattle.mdv_plan.specs.Table.{empty_table}
use Rattle.mdv_run_law.specs.Lives.{host_of}
use Rattle.mdv_run_law.specs.Run.{IsAnswered, IsSaid}
use Rattle.mdv_shelf.specs.Failing.{Outcomes}
use Rattle.mdv_status.specs.Values.{printed_reply}
use Rattle.mdv_store.specs.Opened.{Opened}
use Rattle.mdv_words.specs.declared.command.Command.TheVariants.{Print}
use Rattle.mdv_theorem.specs.Exchanges.{Asks, Exchange, IsTold, exchanges_by}
use Rattle.mdv_theorem.specs.Observed.{PrintsAgree}
use Rattle.mdv_theorem.specs.Words.{MayHave}
use Rattle.mdv_theorem.proofs.Printing.{listing_bare}
use Rattle.mdv_theorem.proofs.Reaching.{bare}
use Rattle.mdv_theorem.proofs.Clean.{start_by}
use Rattle.mdv_theorem.proofs.Starting.{starts}
use Rattle.mdv_theorem.proofs.Steps.{Between, Failed, reached_from, stepped, steps_cut, told_once}
use Rattle.mdv_theorem.proofs.Tabled.{come_idle, come_open, come_steps, open_come}
use Rattle.mdv_theorem.proofs.Tables.{granted_done}

-- what a print tells is the open table
record IsListed (host : Host) (at : Between host) (names : List Named) (reply : List ℕ) (next : Kept) : Type 0 where
  o : Opened
  opened : at.kept.memory.opened ≡ Some o
  told : reply ≡ printed_reply (listing_of (bare o.table).plan names)
  stays : Stays at.kept next

listed : (host : Host) (calls : Outcomes) (at : Between host) (next : Kept) (one : Exchange) (answer : Answer) → IsAnswered calls host at.kept one.text answer next → IsSaid answer → IsTold one (text_of answer) → (names : List Named) → Asks one (Print names)
    → (reply : List ℕ) → IsTold one reply → ((refusal : Refusal) → reply ≡ refusal_line refusal → ⊥) → IsListed host at names reply next
listed host calls at next one answer comes said told names asks reply is other = by (granted_done host calls at.kept next one answer comes said told (Print names) asks (reply, is, other)).1 where
  by : Effect calls host at.kept (Print names) answer next → IsListed host at names reply next
  by (calm, o, opened, text, same) = record { o = o; opened = opened; told = told_once one reply (text_of answer) is told ∙ ap text_of text ∙ ap printed_reply (listing_bare host at o opened names); stays = same }

pub prints_agree : PrintsAgree
prints_agree drives name before script of_table run print again first between later names others parts asks asks_again reply other told told_again granted granted_again =
    let fresh = run.fresh in
    let host = host_of drives name fresh in
    let old = exchanges_by name before in
    let starts_so = starts drives name before script of_table run in
    let there = reached_from run starts_so.of (first ++ print ∷ between) later again other parts told_again in
    let start : Between host = record { kept = there.first; sure = there.first_sure } in
    let last : Between host = record { kept = there.kept; sure = there.sure } in
    let cut = steps_cut host (Failed run) first (print ∷ between) start last there.steps in
    let line = stepped host (Failed run) cut.0 last print between cut.2 in
    let at : Between host = record { kept = line.kept; sure = line.sure } in
    let mid : Between host = record { kept = line.mid; sure = line.next } in
    let one = listed host line.calls at line.mid print line.answer line.comes line.said line.told names asks reply told granted in
    let two = listed host there.calls last there.next again there.answer there.comes there.said there.told others asks_again other told_again granted_again in
    let begun = come_idle drives name (empty_table []) fresh old (start_by run starts_so.of) there.first_sure.history there.begun starts_so.accords.tables in
    let upto = come_steps drives name (empty_table []) fresh (Failed run) old start cut.0 first begun cut.1 in
    let come = come_steps drives name (empty_table []) fresh (Failed run) (old ++ first) cut.0 at [] upto line.before in
    let still = ap (λ (m : Memory). m.opened) one.stays.memory ∙ one.opened in
    let since = come_steps drives name (bare one.o.table) fresh (Failed run) [] mid last between (come_open drives name (bare one.o.table) fresh [] mid one.o still refl) line.after in
    record {
      table = bare one.o.table;
      next = bare two.o.table;
      may = subst (λ (l : List Exchange). MayHave drives name l (bare one.o.table)) (append-nil (old ++ first)) (open_come drives name (empty_table []) fresh ((old ++ first) ++ []) at one.o one.opened come);
      since = open_come drives name (bare one.o.table) fresh between last two.o two.opened since;
      told = one.told;
      again = two.told;
    }
