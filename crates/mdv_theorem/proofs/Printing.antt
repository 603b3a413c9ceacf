-- A print of volumes that lines show to be there, or of all of a database that they show, is told, by a table that the database may have; or memory is wanting.
use Rattle.std.proofs.Common.{◌≡◌, ◌⊎◌, inl, inr, ℕ, false, ◌||◌, List, [], ◌∷◌, ◌++◌, map, Option, Some, None, Contains, refl, sym, ◌∙◌, ap, subst}
use Rattle.std.proofs.lemmas.Bool.{false≢true}
use Rattle.std.specs.List.{list_any}
use Rattle.std.specs.Option.{is_none}
use Rattle.mdv_plan.specs.declared.plan.Plan.{Plan}
use Rattle.mdv_base.specs.Order.{first_refusal, where_so}
use Rattle.mdv_base.specs.declared.name.Named.{Named}
use Rattle.mdv_base.specs.declared.name.Named.TheVariants as named
use Rattle.mdv_base.specs.declared.name.VolId.{VolId}
use Rattle.mdv_base.specs.declared.refusal.Refusal.TheVariants.{NoSuchPool, NoSuchVolume, OutOfMemory}
use Rattle.mdv_engine_law.specs.Answers.{refusing}
use Rattle.mdv_engine_law.specs.Commands.{Effect, case_of}
use Rattle.mdv_engine_law.specs.Line.{Kept}
use Rattle.mdv_engine_law.specs.Refusals.{held_of_print, names_no_volume, names_pool, refusal_of}
use Rattle.mdv_engine_law.specs.Replies.{refusal_line, text_of}
use Rattle.mdv_engine_law.specs.declared.answer.Answer.{Answer}
use Rattle.mdv_engine_law.specs.declared.host.Host.{Host}
use Rattle.mdv_components.specs.Bases.{volume_of}
use Rattle.mdv_listing.proofs.Told.{same_listing, tellable}
use Rattle.mdv_listing.specs.Listing.{listing_of}
use Rattle.mdv_name.specs.declared.geometry.Geometry.{Geometry}
use Rattle.mdv_port.specs.Script.{Script}
use Rattle.mdv_run_law.specs.Lives.{Ran, host_of}
use Rattle.mdv_run_law.specs.Run.{IsSaid}
use Rattle.mdv_run_law.proofs.Placing.{opened_twice}
use Rattle.mdv_shelf.specs.Failing.{Outcomes}
use Rattle.mdv_status.specs.Values.{printed_reply}
use Rattle.mdv_config.specs.Slices.{IsSound}
use Rattle.mdv_volumes.proofs.Lists.{contains_behind, contains_first}
use Rattle.mdv_words.specs.declared.command.Command.TheVariants.{Print}
use Rattle.mdv_volumes.proofs.Maps.{found_as}
use Rattle.mdv_theorem.specs.Exchanges.{Asks, Exchange, IsTold, exchanges_by}
use Rattle.mdv_theorem.specs.Observed.{HaveAnswered, Lists, PrintsOfAll, PrintsOfNames}
use Rattle.mdv_theorem.specs.Running.{Running}
use Rattle.mdv_theorem.specs.Words.{HasDatabase, IsThere}
use Rattle.mdv_theorem.proofs.Aside.{Commanded, commanded}
use Rattle.mdv_theorem.proofs.Granting.{granted}
use Rattle.mdv_theorem.proofs.Lines.{never_in}
use Rattle.mdv_theorem.proofs.Lying.{table_there}
use Rattle.mdv_theorem.proofs.Reaching.{bare}
use Rattle.mdv_theorem.proofs.Enduring.{database_open, it_stays}
use Rattle.mdv_theorem.proofs.Starting.{Starts, starts}
use Rattle.mdv_theorem.proofs.Steps.{Between, Reached, reached_from, told_once}
use Rattle.mdv_store.specs.Opened.{Opened}
use Rattle.mdv_theorem.proofs.Sure.{sure_table}

-- nothing refuses a print of volumes that are there
none_missing : (p : Plan) (numbers : List VolId) → ((n : VolId) → Contains numbers n → is_none (volume_of p n) ≡ false) → list_any (names_no_volume p) (map named.Volume numbers) ≡ false
none_missing p [] has = refl
none_missing p (n ∷ numbers) has = λ i. has n (contains_first n numbers) i || none_missing p numbers (λ m more. has m (contains_behind n m numbers more)) i

no_pool : (numbers : List VolId) → list_any names_pool (map named.Volume numbers) ≡ false
no_pool [] = refl
no_pool (n ∷ numbers) = no_pool numbers

print_free : (opened : Option Opened) (o : Opened) (numbers : List VolId) → opened ≡ Some o → ((n : VolId) → Contains numbers n → is_none (volume_of o.table.plan n) ≡ false) → first_refusal (held_of_print opened (map named.Volume numbers)) ≡ None
print_free opened o numbers is has =
    ap (λ (p : Option Opened). first_refusal (held_of_print p (map named.Volume numbers))) is
    ∙ (λ i. first_refusal (where_so (none_missing o.table.plan numbers has i) NoSuchVolume ++ where_so (no_pool numbers i) NoSuchPool))

-- so the open table is told, or memory was wanting
given : (calls : Outcomes) (host : Host) (kept next : Kept) (o : Opened) → kept.memory.opened ≡ Some o → (names : List Named) → refusal_of (case_of host kept) (Print names) ≡ None → (answer : Answer) → IsSaid answer → (reply : List ℕ) → text_of answer ≡ reply
    → Commanded calls host kept (Print names) answer next → (reply ≡ refusal_line OutOfMemory) ⊎ (reply ≡ printed_reply (listing_of o.table.plan names))
given calls host kept next o opened names free answer said reply told comes = by (granted calls host kept next (Print names) free (λ none. none) answer said comes) where
  by : (answer ≡ refusing OutOfMemory) ⊎ Effect calls host kept (Print names) answer next → (reply ≡ refusal_line OutOfMemory) ⊎ (reply ≡ printed_reply (listing_of o.table.plan names))
  by (inl want) = inl (sym told ∙ ap text_of want)
  by (inr (calm, its, also, text, same)) = inr (sym told ∙ ap text_of text ∙ ap (λ (n : Opened). printed_reply (listing_of n.table.plan names)) (opened_twice kept.memory.opened o its opened also))

-- of a table's places nothing is told
pub listing_bare : (host : Host) (at : Between host) (o : Opened) → at.kept.memory.opened ≡ Some o → (names : List Named) → listing_of o.table.plan names ≡ listing_of (bare o.table).plan names
listing_bare host at o opened names =
    let is = tellable host.drives o.table (sure_table host at.kept o at.sure opened) in
    same_listing o.table.plan (bare o.table).plan names is (record { ascending = is.ascending; alone = is.alone; pools = is.pools }) refl

-- where the run has come to a line
module _ (drives : Geometry) (name : List ℕ) (before : List Ran) (script : Script) (sound : IsSound drives) (of_table : Contains drives.hosts name) (run : Running drives name before script) (here : List Exchange) (calm : HaveAnswered run (exchanges_by name before ++ here)) (one : Exchange) (starts_so : Starts run) (at : Reached run starts_so.of here one)
    (o : Opened) (opened : at.kept.memory.opened ≡ Some o) where
  abbrev host : Host
  host = host_of drives name run.fresh

  abbrev lines : List Exchange
  lines = exchanges_by name before ++ here

  -- it has a volume that lines show to be there
  has_shown : (volume : VolId) → IsThere volume lines → is_none (volume_of o.table.plan volume) ≡ false
  has_shown volume there =
      let its = it_stays drives name before script sound of_table run starts_so here one at calm volume there in
      let found = found_as host.drives its.o.table volume its.so.0 its.so.1 in
      subst (λ (n : Opened). is_none (volume_of n.table.plan volume) ≡ false) (opened_twice at.kept.memory.opened o its.o opened its.opened) (ap is_none found.found)

  listed : (names : List Named) (reply : List ℕ) → reply ≡ printed_reply (listing_of o.table.plan names) → Lists drives name lines names reply
  listed names reply is = record {
    table = bare o.table;
    may = table_there run starts_so.of starts_so.accords.tables here one at o opened;
    there = λ volume there none. false≢true (sym (has_shown volume there) ∙ ap is_none none);
    told = is ∙ ap printed_reply (listing_bare host (record { kept = at.kept; sure = at.sure }) o opened names);
  }

  printed : (names : List Named) → refusal_of (case_of host at.kept) (Print names) ≡ None → Asks one (Print names) → (reply : List ℕ) → IsTold one reply → (reply ≡ refusal_line OutOfMemory) ⊎ (reply ≡ printed_reply (listing_of o.table.plan names))
  printed names free asks reply told =
      given at.calls host at.kept at.next o opened names free at.answer at.said reply (told_once one (text_of at.answer) reply at.told told) (commanded at.calls host at.kept at.next one.text (Print names) at.answer asks at.comes)

  told_of : (numbers : List VolId) → ((volume : VolId) → Contains numbers volume → IsThere volume lines) → Asks one (Print (map named.Volume numbers)) → (reply : List ℕ) → IsTold one reply → (reply ≡ refusal_line OutOfMemory) ⊎ Lists drives name lines (map named.Volume numbers) reply
  told_of numbers there asks reply told = elim (printed (map named.Volume numbers) (print_free at.kept.memory.opened o numbers opened (λ n among. has_shown n (there n among))) asks reply told) [
    | inl want ↦ inl want
    | inr is ↦ inr (listed (map named.Volume numbers) reply is)
  ]

  pub named_told : (first : VolId) (volumes : List VolId) → ((volume : VolId) → Contains (first ∷ volumes) volume → IsThere volume lines) → Asks one (Print (map named.Volume (first ∷ volumes))) → (reply : List ℕ) → IsTold one reply
      → (reply ≡ refusal_line OutOfMemory) ⊎ Lists drives name lines (map named.Volume (first ∷ volumes)) reply
  named_told first volumes there asks reply told = told_of (first ∷ volumes) there asks reply told

  pub all_told : Asks one (Print []) → (reply : List ℕ) → IsTold one reply → (reply ≡ refusal_line OutOfMemory) ⊎ Lists drives name lines [] reply
  all_told asks reply told = told_of [] (λ volume none. absurd (never_in volume none)) asks reply told

pub prints_of_names : PrintsOfNames
prints_of_names drives name before script of_table run one earlier first volumes answered enough there asks reply told =
    let sound = run.life.fair in
    let calm = subst (HaveAnswered run) answered.behind enough in
    let starts_so = starts drives name before script of_table run in
    let at = reached_from run starts_so.of answered.here answered.later one reply answered.is told in
    let shown : (volume : VolId) → Contains (first ∷ volumes) volume → IsThere volume (exchanges_by name before ++ answered.here) = λ volume has. subst (IsThere volume) answered.behind (there volume has) in
    let its = it_stays drives name before script sound of_table run starts_so answered.here one at calm first (shown first (contains_first first volumes)) in
    subst (λ (l : List Exchange). (reply ≡ refusal_line OutOfMemory) ⊎ Lists drives name l (map named.Volume (first ∷ volumes)) reply) (sym answered.behind)
    (named_told drives name before script sound of_table run answered.here calm one starts_so at its.o its.opened first volumes shown asks reply told)

pub prints_of_all : PrintsOfAll
prints_of_all drives name before script of_table run one earlier answered enough has asks reply told =
    let sound = run.life.fair in
    let calm = subst (HaveAnswered run) answered.behind enough in
    let starts_so = starts drives name before script of_table run in
    let at = reached_from run starts_so.of answered.here answered.later one reply answered.is told in
    let its = database_open drives name before script sound of_table run starts_so answered.here one at calm (subst HasDatabase answered.behind has) in
    subst (λ (l : List Exchange). (reply ≡ refusal_line OutOfMemory) ⊎ Lists drives name l [] reply) (sym answered.behind) (all_told drives name before script sound of_table run answered.here calm one starts_so at its.0 its.1 asks reply told)
