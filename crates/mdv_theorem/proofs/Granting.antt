-- What a command is told that nothing refuses, and of which no call failed that it would tell: that it was done, or that memory is wanting. So of a transfer of blocks that a volume has, on drives that answer.
use Rattle.std.proofs.Common.{◌≡◌, ◌⊎◌, inl, inr, ℕ, ◌+◌, ◌≤◌, Bool, true, false, List, ◌++◌, length, Option, Some, None, refl, sym, ◌∙◌, ap, subst, arith}
use Rattle.std.specs.Prelude.{nat_lt}
use Rattle.std.proofs.lemmas.Bool.Decides.{nat_tests}
use Rattle.mdv_base.specs.Order.{first_refusal, where_so}
use Rattle.mdv_base.specs.declared.refusal.Refusal.TheVariants.{TooMany}
use Rattle.mdv_engine_law.specs.Answers.{refusing}
use Rattle.mdv_engine_law.specs.Commands.{CameTo, Effect, Fault, case_of, refused, wanting, done, faulted, over}
use Rattle.mdv_shelf.specs.Failing.{Outcomes}
use Rattle.mdv_engine_law.specs.Line.{HasBlocks, Kept}
use Rattle.mdv_engine_law.specs.Refusals.{held_of_transfer, held_past, refusal_of}
use Rattle.mdv_engine_law.specs.Replies.{ok_line, refusal_line, text_of}
use Rattle.mdv_engine_law.specs.declared.answer.Answer.{Answer}
use Rattle.mdv_engine_law.specs.declared.answer.Answer.TheVariants.{Over}
use Rattle.mdv_dev.specs.Pieces.{has_drive as lies_on}
use Rattle.mdv_map.specs.Maps.{Map}
use Rattle.mdv_run_law.specs.Below.{Command, Host, OutOfMemory, OutOfRange, Read, VolId, Write, meant}
use Rattle.mdv_run_law.specs.Run.{IsAnswered, IsSaid}
use Rattle.mdv_volumes.specs.Tables.{IsMapOf}
use Rattle.mdv_words.specs.Line.{blocks_of}
use Rattle.mdv_words.specs.declared.written.Written.{Written}
use Rattle.mdv_theorem.specs.Exchanges.{Asks, Exchange}
use Rattle.mdv_theorem.specs.Observed.{AreValuesOf}
use Rattle.mdv_theorem.proofs.Aside.{Commanded, came, commanded, unread}
use Rattle.mdv_store.specs.Opened.{Opened}

-- nothing refuses the command, by what it means, and its answer tells no failed call
module _ (calls : Outcomes) (host : Host) (kept next : Kept) (command : Command) (free : refusal_of (case_of host kept) (meant kept.memory.entries command) ≡ None) (unfailed : Fault calls host kept (meant kept.memory.entries command) next → ⊥) (answer : Answer) (said : IsSaid answer) where
  abbrev IsGranted : Type 0
  IsGranted = (answer ≡ refusing OutOfMemory) ⊎ Effect calls host kept (meant kept.memory.entries command) answer next

  came_granted : CameTo calls host kept (meant kept.memory.entries command) answer next → IsGranted
  came_granted (refused quiet s why turned) = absurd (cc (free, why))
  came_granted (wanting quiet is left) = inl is
  came_granted (done allowed effect) = inr effect
  came_granted (faulted allowed is left) = absurd (unfailed left)
  came_granted (over end allowed is left) = (let never : IsSaid (Over end) = subst IsSaid is said in absurd never)

  pub granted : Commanded calls host kept command answer next → IsGranted
  granted (came is) = came_granted is
  granted (unread is) = inl is

-- nothing refuses a transfer within a volume that is there
not_past : (size end : ℕ) → end ≤ size → nat_lt size end ≡ false
not_past size end within = grind (arith, nat_tests)

none_held : (past many : Bool) → past ≡ false → many ≡ false → first_refusal (where_so past OutOfRange ++ where_so many TooMany) ≡ None
none_held false false one other = refl
none_held true many one other = absurd (cc (one))
none_held false true one other = absurd (cc (other))

pub transfer_free : (host : Host) (opened : Option Opened) (o : Opened) (volume : VolId) (v : Map) (at count : ℕ) → opened ≡ Some o → IsMapOf host.drives o.table volume v → at + count ≤ v.blocks → count ≤ 1024 → first_refusal (held_of_transfer host opened volume at count) ≡ None
transfer_free host opened o volume v at count is_open lies within few =
    ap (λ (p : Option Opened). first_refusal (held_of_transfer host p volume at count)) is_open
    ∙ ap (λ (m : Option Map). first_refusal (held_past m (at + count) ++ where_so (nat_lt 1024 count) TooMany)) lies
    ∙ none_held (nat_lt v.blocks (at + count)) (nat_lt 1024 count) (not_past v.blocks (at + count) within) (not_past 1024 count few)

-- A line was answered so, that nothing refuses where it asks for a transfer of these blocks, and on whose drives no call failed.
pub record Transfer (one : Exchange) (volume : VolId) (at count : ℕ) (reply : List ℕ) : Type 1 where
  pub calls : Outcomes
  pub host : Host
  pub kept : Kept
  pub next : Kept
  pub answer : Answer
  pub said : IsSaid answer
  pub told : text_of answer ≡ reply
  pub comes : IsAnswered calls host kept one.text answer next
  pub free : first_refusal (held_of_transfer host kept.memory.opened volume at count) ≡ None
  pub calm : (v : Map) → HasBlocks host kept.memory volume at count v → (drive : ℕ) → lies_on v at count drive ≡ true → (calls drive).some → ⊥

module _ (one : Exchange) (volume : VolId) (at : ℕ) (reply : List ℕ) where
  -- a read tells a value of each
  pub read_granted : (count : ℕ) → Transfer one volume at count reply → Asks one (Read volume at count) → (reply ≡ refusal_line OutOfMemory) ⊎ AreValuesOf at count reply
  read_granted count t asks = by (granted t.calls t.host t.kept t.next (Read volume at count) t.free unfailed t.answer t.said (commanded t.calls t.host t.kept t.next one.text (Read volume at count) t.answer asks t.comes)) where
    unfailed : Fault t.calls t.host t.kept (Read volume at count) t.next → ⊥
    unfailed (failed, left) = t.calm failed.map failed.there failed.drive failed.on failed.failed.here

    by : (t.answer ≡ refusing OutOfMemory) ⊎ Effect t.calls t.host t.kept (Read volume at count) t.answer t.next → (reply ≡ refusal_line OutOfMemory) ⊎ AreValuesOf at count reply
    by (inl want) = inl (sym t.told ∙ ap text_of want)
    by (inr (calm, v, there, blocks, many, seen, values, stays)) = inr (record { blocks = blocks; counted = many; told = sym t.told ∙ ap text_of values })

  -- a write tells `ok`
  pub write_granted : (what : Written) → Transfer one volume at (length (blocks_of what)) reply → Asks one (Write volume at what) → (reply ≡ refusal_line OutOfMemory) ⊎ (reply ≡ ok_line)
  write_granted what t asks = by (granted t.calls t.host t.kept t.next (Write volume at what) t.free unfailed t.answer t.said (commanded t.calls t.host t.kept t.next one.text (Write volume at what) t.answer asks t.comes)) where
    unfailed : Fault t.calls t.host t.kept (Write volume at what) t.next → ⊥
    unfailed (failed, unsettled, put) = t.calm failed.map failed.there failed.some.0 (failed.on failed.some.0 failed.some.1) (failed.failed failed.some.0 failed.some.1)

    by : (t.answer ≡ refusing OutOfMemory) ⊎ Effect t.calls t.host t.kept (Write volume at what) t.answer t.next → (reply ≡ refusal_line OutOfMemory) ⊎ (reply ≡ ok_line)
    by (inl want) = inl (sym t.told ∙ ap text_of want)
    by (inr (calm, v, there, ok, memory, put)) = inr (sym t.told ∙ ap text_of ok)
