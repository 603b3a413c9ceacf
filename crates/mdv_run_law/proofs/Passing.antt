-- What a pass of which no call failed leaves of seats: one list.
use Rattle.std.proofs.Common.{◌≡◌, ℕ, suc, Bool, true, false, cond, List, [], ◌∷◌, Option, None, Some, MatchOption, length, map, refl, sym, ◌∙◌, ap, arith}
use Rattle.std.specs.List.{cons_option}
use Rattle.std.proofs.lemmas.Bool.Decides.{nat_tests}
use Rattle.mdv_base.specs.Mark.{IsBelow}
use Rattle.mdv_base.specs.declared.mark.Mark.{Mark}
use Rattle.mdv_replica.specs.Form.{IsSpare, with_slot}
use Rattle.mdv_replica.specs.declared.forms.Gate.{Gate}
use Rattle.mdv_replica.specs.declared.forms.Gate.TheVariants.{Closed, Open}
use Rattle.mdv_replica.specs.declared.replica.Head.{Head}
use Rattle.mdv_replica.specs.declared.replica.Slot.{Slot}
use Rattle.mdv_replica.specs.declared.replica.Slot.TheVariants.{First, Second}
use Rattle.mdv_shelf.specs.Failing.{Outcomes}
use Rattle.mdv_votes.specs.Family.{mark_below}
use Rattle.mdv_survey.specs.declared.replica.Replica.{Replica}
use Rattle.mdv_encoding.specs.Text.{record_bytes}
use Rattle.mdv_store.specs.Boot.{TakesAll, TakesBoth, TakesBy}
use Rattle.mdv_config.specs.Lists.{settled}
use Rattle.mdv_plan.specs.declared.lists.Lists.TheVariants.{One, Two}
use Rattle.mdv_plan.specs.declared.table.Table.{Table}
use Rattle.mdv_store.specs.Seats.{AreLeft, IsSpareOf, TakesSlot, active_of, drive_of, replicas_of}
use Rattle.mdv_store.specs.declared.seats.Seat.{Seat}
use Rattle.mdv_store.specs.Shares.{short_of, suffices}
use Rattle.mdv_store.specs.declared.seats.Need.{Need}
use Rattle.mdv_store.specs.declared.seats.Share.{Share}
use Rattle.mdv_store.proofs.Shares.{short_fewer}
use Rattle.mdv_plan.specs.declared.lists.Lists.{Lists}

-- the slot that takes the next table
abbrev pub spare_of : Gate → Gate → Slot
spare_of Closed second = First
spare_of (Open m n) Closed = Second
spare_of (Open m n) (Open o k) = cond (mark_below o m) Second First

test_is : (a b : Mark) → mark_below a b ≡ true → IsBelow a b
test_is a b is = grind (arith, nat_tests)

test_not : (a b : Mark) → mark_below a b ≡ false → IsBelow a b → ⊥
test_not a b is below = grind (arith, nat_tests)

first_is : (a b : Gate) → IsSpare a b → spare_of a b ≡ First
first_is Closed b spare = refl
first_is (Open m n) Closed spare = absurd spare
first_is (Open m n) (Open o k) spare = by (mark_below o m) refl where
  by : (t : Bool) → mark_below o m ≡ t → cond t Second First ≡ First
  by true is = absurd (spare (test_is o m is))
  by false is = refl

second_is : (a b : Gate) → (IsSpare a b → ⊥) → spare_of a b ≡ Second
second_is Closed b never = absurd (never tt)
second_is (Open m n) Closed never = refl
second_is (Open m n) (Open o k) never = by (mark_below o m) refl where
  by : (t : Bool) → mark_below o m ≡ t → cond t Second First ≡ Second
  by true is = refl
  by false is = absurd (never (test_not o m is))

spare_is : (head : Head) (slot : Slot) → IsSpareOf head slot → slot ≡ spare_of head.first head.second
spare_is head First is = sym (first_is head.first head.second is.spare)
spare_is head Second is = sym (second_is head.first head.second (is.tie refl))

-- a replica with a table in that slot, and one with a claim too
abbrev pub slotted : Mark → ℕ → Replica → Replica
slotted mark bytes r = record r { head = with_slot r.head (spare_of r.head.first r.head.second) (Open mark bytes) }

abbrev pub rewritten : ℕ → ℕ → Replica → Replica
rewritten number bytes r = record r { head = with_slot (record r.head { claim = number }) (spare_of r.head.first r.head.second) (Open (record { boot = number; count = 0 }) bytes) }

pub slotted_is : (mark : Mark) (bytes : ℕ) (r n : Replica) → TakesSlot mark bytes r n → n ≡ slotted mark bytes r
slotted_is mark bytes r n takes = takes.2 ∙ ap (λ (s : Slot). record r { head = with_slot r.head s (Open mark bytes) }) (spare_is r.head takes.0 takes.1)

pub rewritten_is : (number bytes : ℕ) (r n : Replica) → TakesBoth number bytes r n → n ≡ rewritten number bytes r
rewritten_is number bytes r n takes = takes.2 ∙ ap (λ (s : Slot). record r { head = with_slot (record r.head { claim = number }) s (Open (record { boot = number; count = 0 }) bytes) }) (spare_is r.head takes.0 takes.1)

-- and with all that a boot writes
abbrev pub rewritten_by : Lists → ℕ → Table → Replica → Replica
rewritten_by (One list) number table r = rewritten number (record_bytes table) r
rewritten_by (Two old new) number table r = slotted (record { boot = number; count = 1 }) (record_bytes (settled table)) (rewritten number (record_bytes table) r)

pub all_is : (number : ℕ) (table : Table) (r n : Replica) → TakesAll number table r n → n ≡ rewritten_by table.plan.lists number table r
all_is number table r n takes = by table.plan.lists takes where
  by : (l : Lists) → TakesBy l number table r n → n ≡ rewritten_by l number table r
  by (One list) took = rewritten_is number (record_bytes table) r n took
  by (Two old new) (m, first, second) =
      slotted_is (record { boot = number; count = 1 }) (record_bytes (settled table)) m n second
      ∙ ap (slotted (record { boot = number; count = 1 }) (record_bytes (settled table))) (rewritten_is number (record_bytes table) r m first)

-- the seats with what became of their replicas
abbrev pub became : (Replica → Replica) → Option Replica → Option Replica
became f None = None
became f (Some r) = Some (f r)

abbrev pub seats_with : (Replica → Replica) → List Seat → List Seat
seats_with f seats = map (λ (s : Seat). record s { replica = became f s.replica }) seats

-- no call failed
abbrev pub NoneFailed : Outcomes → Type 0
NoneFailed failed = (drive : ℕ) → (failed drive).some → ⊥

module _ (failed : Outcomes) (calm : NoneFailed failed) where
  abbrev Became : (Replica → Replica → Type 0) → Option Replica → Option Replica → Type 0
  Became Took old new = MatchOption old (new ≡ None) (λ (r : Replica). MatchOption new (failed (drive_of r)).some (λ (n : Replica). (failed (drive_of r)).none × Took r n))

  became_is : (Took : Replica → Replica → Type 0) (f : Replica → Replica) → ((r n : Replica) → Took r n → n ≡ f r) → (o p : Option Replica) → Became Took o p → p ≡ became f o
  became_is Took f is None p left = left
  became_is Took f is (Some r) None left = absurd (calm (drive_of r) left)
  became_is Took f is (Some r) (Some n) left = ap Some (is r n left.1)

  pub left_is : (Took : Replica → Replica → Type 0) (f : Replica → Replica) → ((r n : Replica) → Took r n → n ≡ f r) → (old new : List Seat) → AreLeft failed Took old new → new ≡ seats_with f old
  left_is Took f is [] [] left = refl
  left_is Took f is [] (n ∷ ns) left = absurd left
  left_is Took f is (s ∷ ss) [] left = absurd left
  left_is Took f is (s ∷ ss) (n ∷ ns) left =
      let rest = left_is Took f is ss ns left.1 in
      let place = left.0.0 in
      let replica = became_is Took f is s.replica n.replica left.0.1 in
      λ i. record { place = place i; replica = replica i } ∷ rest i

  as_many : (Took : Replica → Replica → Type 0) (o p : Option Replica) (rs qs : List Replica) → Became Took o p → length qs ≡ length rs → length (cons_option p qs) ≡ length (cons_option o rs)
  as_many Took None None rs qs left same = same
  as_many Took None (Some n) rs qs left same = absurd (cc (left))
  as_many Took (Some r) None rs qs left same = absurd (calm (drive_of r) left)
  as_many Took (Some r) (Some n) rs qs left same = ap (λ (k : ℕ). suc k) same

  pub left_active : (Took : Replica → Replica → Type 0) (old new : List Seat) → AreLeft failed Took old new → active_of new ≡ active_of old
  left_active Took [] [] left = refl
  left_active Took [] (n ∷ ns) left = absurd left
  left_active Took (s ∷ ss) [] left = absurd left
  left_active Took (s ∷ ss) (n ∷ ns) left = as_many Took s.replica n.replica (replicas_of ss) (replicas_of ns) left.0.1 (left_active Took ss ns left.1)

  -- so of each list as much is left as before
  pub never_short : (Took : Replica → Replica → Type 0) (had need : Need) → ((share : Share) → suffices had share ≡ true → suffices need share ≡ true) → (lists : Lists) (old new : List Seat) (share : Share) → AreLeft failed Took old new
      → short_of had old lists ≡ None → short_of need new lists ≡ Some share → ⊥
  never_short Took had need weaker lists old new share left none short =
      let fewer = short_fewer failed Took had need weaker lists old new share left none short in
      omega (arith, fewer, left_active Took old new left)
