-- How the reads of a survey add up.
use Rattle.std.proofs.Common.{◌≡◌, inl, inr, ℕ, zero, suc, ◌+◌, ◌≤◌, refl, sym, ap, subst, IsErrAnd, Some, None, Option, Result, Ok, Err, arith}
use Rattle.mdv_shelf.specs.Shelves.{MadeCalls}
use Rattle.mdv_shelf.proofs.Counts.{took_more}
use Rattle.mdv_survey.specs.Below.{Closed, First, Gate, Ghosts, Head, Open, Second, Slot, gate_of, other_slot}
use Rattle.mdv_survey.specs.Counts.{AreReadFor, IsHeldCounted, IsSlotBy, MadeFew, MadeReads, open_slots, reads_of}
use Rattle.mdv_survey.specs.declared.slots.Held.{Held}
use Rattle.mdv_survey.specs.declared.slots.Held.TheVariants.{Nothing, Kept, Other}

-- an answer that is this fault
pub err_is : {T E : Type 0} (result : Result T E) (fault : E) → IsErrAnd result (λ e. e ≡ fault) → result ≡ Err fault
err_is (Ok done) fault is = absurd is
err_is (Err e) fault is = ap Err is

-- a slot takes no more reads than its gate says
pub slot_few : (blocks : ℕ) (gate : Gate) (n : ℕ) → IsSlotBy blocks gate n → n ≤ reads_of gate
slot_few blocks Closed n none = omega (arith, none)
slot_few blocks (Open mark bytes) n (inl (fits, one)) = omega (arith, one)
slot_few blocks (Open mark bytes) n (inr (long, none)) = omega (arith, none)

-- one slot of a replica and the other one
pub both_slots : (head : Head) (slot : Slot) → reads_of (gate_of head slot) + reads_of (gate_of head (other_slot slot)) ≡ open_slots head
both_slots head First = refl
both_slots head Second = omega arith

module _ {S : Type 0} (shelf : Ghosts S) where
  behind : (a b c : S) (j k m : ℕ) → j + k ≡ m → MadeCalls shelf a b j 0 → MadeReads shelf b c k → MadeCalls shelf a c m 0
  behind a b c j zero m all first same = subst (λ (s : S). MadeCalls shelf a s m 0) (sym same) (subst (λ (n : ℕ). MadeCalls shelf a b n 0) (omega (arith, all)) first)
  behind a b c j (suc k) m all first took = took_more shelf.calls shelf.written a b c j (suc k) 0 0 m 0 all (omega arith) first took

  pub reads_more : (a b c : S) (j k m : ℕ) → j + k ≡ m → MadeReads shelf a b j → MadeReads shelf b c k → MadeReads shelf a c m
  reads_more a b c zero k m all same second =
      let same_count : k ≡ m = omega (arith, all) in
      subst (λ (s : S). MadeReads shelf s c m) same (subst (λ (n : ℕ). MadeReads shelf b c n) same_count second)
  reads_more a b c (suc j) k m all first second =
      let both : MadeReads shelf a c (suc (j + k)) = behind a b c (suc j) k (suc (j + k)) (omega arith) first second in
      let same_count : suc (j + k) ≡ m = omega (arith, all) in
      subst (λ (n : ℕ). MadeReads shelf a c n) same_count both

  pub few_none : (a : S) (most : ℕ) → MadeFew shelf a a most
  few_none a most = (0, omega arith, refl)

  pub few_of : (a b : S) (k most : ℕ) → k ≤ most → MadeReads shelf a b k → MadeFew shelf a b most
  few_of a b k most few reads = (k, few, reads)

  pub few_more : (a b c : S) (j k most : ℕ) → j + k ≤ most → MadeFew shelf a b j → MadeFew shelf b c k → MadeFew shelf a c most
  few_more a b c j k most few first second =
      let one = first.1 in let two = second.1 in
      (first.0 + second.0, omega (arith, one, two, few), reads_more a b c first.0 second.0 (first.0 + second.0) refl first.2 second.2)

  pub few_wider : (a b : S) (j most : ℕ) → j ≤ most → MadeFew shelf a b j → MadeFew shelf a b most
  few_wider a b j most few made = let one = made.1 in (made.0, omega (arith, one, few), made.2)

  pub few_held : {E : Type 0} (a b : S) (blocks : ℕ) (gate : Gate) (result : Result Held E) → IsHeldCounted shelf a b blocks gate result → MadeFew shelf a b (reads_of gate)
  few_held a b blocks gate (Ok Nothing) reads = (reads_of gate, omega arith, reads)
  few_held a b blocks gate (Ok (Kept mark table)) reads = (reads_of gate, omega arith, reads)
  few_held a b blocks gate (Ok Other) (n, by, made) = (n, slot_few blocks gate n by, made)
  few_held a b blocks gate (Err fault) few = few

  -- so many were read, whatever was found
  pub read_for : {T E : Type 0} (a b : S) (slots : ℕ) (Is : ℕ → Type 0) (result : Result (Option T) E) → Is slots → MadeReads shelf a b slots → AreReadFor shelf a b slots Is result
  read_for a b slots Is (Ok (Some found)) is reads = reads
  read_for a b slots Is (Ok None) is reads = (slots, is, reads)
  read_for a b slots Is (Err fault) is reads = few_of a b slots slots (omega arith) reads

  -- a slot that was read, or had no open gate
  pub slot_read : (E : Type 0) (a b : S) (blocks : ℕ) (gate : Gate) (held : Held) → (held ≡ Other → ⊥) → IsHeldCounted {E = E} shelf a b blocks gate (Ok held) → MadeReads shelf a b (reads_of gate)
  slot_read E a b blocks gate Nothing never reads = reads
  slot_read E a b blocks gate (Kept mark table) never reads = reads
  slot_read E a b blocks gate Other never few = absurd (never refl)
