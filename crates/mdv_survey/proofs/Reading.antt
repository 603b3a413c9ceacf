-- What the slots of a replica have that were read one behind the other, and how many reads they take.
use Rattle.std.proofs.Common.{◌≡◌, inl, inr, ℕ, ◌+◌, ◌≤◌, List, refl, sym, ◌∙◌, ap, subst, Some, None, Option, Result, Ok, Err, IfOk, arith}
use Rattle.mdv_survey.specs.Below.{Closed, First, Gate, Geometry, Ghosts, Head, IsSpareSlot, Open, PlaceAt, Second, Slot, Tale, gate_of, last, other_slot}
use Rattle.mdv_survey.specs.Counts.{AreReadFor, AreSlotsBy, IsCounted, IsHeldCounted, IsSlotBy, IsUnfitBy, open_slots, reads_of}
use Rattle.mdv_survey.specs.Slots.{AreSlots, BothFit, Fits, IsHeld, IsNewestRead, OnlyReads}
use Rattle.mdv_survey.specs.declared.slots.Held.{Held}
use Rattle.mdv_survey.specs.declared.slots.Held.TheVariants.{Nothing, Kept, Other}
use Rattle.mdv_survey.specs.declared.slots.Slots.{Slots}
use Rattle.mdv_survey.proofs.Counting.{both_slots, few_more, few_of, reads_more, slot_few, slot_read}
use Rattle.mdv_survey.proofs.Tables.{closed_fits, kept_fits}

reads_few : (gate : Gate) → reads_of gate ≤ 1
reads_few Closed = omega arith
reads_few (Open mark bytes) = omega arith

pub slots_few : (head : Head) → open_slots head ≤ 2
slots_few head = let one = reads_few head.first in let two = reads_few head.second in omega (arith, one, two)

-- as many reads as the slots of a head take, where they were read
abbrev pub VisitsBy : {T E : Type 0} → Geometry → PlaceAt → Head → (ℕ → List ℕ) → Result (Option T) E → ℕ → Type 0
VisitsBy g at head content (Ok (Some found)) n = n ≡ open_slots head
VisitsBy g at head content (Ok None) n = IsUnfitBy g at head content n
VisitsBy g at head content (Err fault) n = Unit {0}

module _ {S : Type 0} (shelf : Ghosts S) (g : Geometry) (at : PlaceAt) (head : Head) where
  pub visited : {T E : Type 0} (a b : S) (Q : Tale → ℕ → Type 0) (result : Result (Option T) E)
      → ((t : Tale) (n : ℕ) → VisitsBy g at head (last t at.drive.0) result n → Q t n) → AreSlotsBy shelf g at head a b result → IsCounted shelf a b 2 Q
  visited a b Q (Ok (Some found)) by reads = record { calls = open_slots head; few = slots_few head; made = reads; by = λ t is. by t (open_slots head) refl }
  visited a b Q (Ok None) by reads = record { calls = reads.calls; few = reads.few; made = reads.made; by = λ t is. by t reads.calls (reads.by t is) }
  visited a b Q (Err fault) by reads = let few = slots_few head in let most = reads.1 in record { calls = reads.0; few = omega (arith, few, most); made = reads.2; by = λ t is. by t reads.0 tt }

  fits_at : (content : ℕ → List ℕ) (slot : Slot) → BothFit g at head content → Fits g at slot (gate_of head slot) content
  fits_at content First both = both.first
  fits_at content Second both = both.second

  both_fit : (content : ℕ → List ℕ) (slot : Slot) → Fits g at slot (gate_of head slot) content → Fits g at (other_slot slot) (gate_of head (other_slot slot)) content → BothFit g at head content
  both_fit content First one other = record { first = one; second = other }
  both_fit content Second one other = record { first = other; second = one }

  -- what is read of the one slot, and then of the other
  module _ (slot : Slot) (gate : Gate) (is : gate ≡ gate_of head slot) where
    held_fits : (content : ℕ → List ℕ) (held : Held) → (held ≡ Other → ⊥) → IsHeld g at slot gate content held → Fits g at slot gate content
    held_fits content Nothing never closed = closed_fits g at content slot gate closed
    held_fits content (Kept mark table) never kept = kept_fits g at content slot gate mark table kept
    held_fits content Other never unfit = absurd (never refl)

    unfit_slots : (content : ℕ → List ℕ) (held : Held) → held ≡ Other → IsHeld g at slot gate content held → AreSlots g at head content None
    unfit_slots content Nothing other closed = absurd (cc (other))
    unfit_slots content (Kept mark table) other kept = absurd (cc (other))
    unfit_slots content Other other unfit = λ both. unfit (subst (λ (x : Gate). Fits g at slot x content) (sym is) (fits_at content slot both))

    slots_are : (content : ℕ → List ℕ) (held : Held) → (held ≡ Other → ⊥) → IsHeld g at slot gate content held → (answer : Option Slots) → IsNewestRead g at head (other_slot slot) content answer → AreSlots g at head content answer
    slots_are content held never one None unfit = λ both. unfit (fits_at content (other_slot slot) both)
    slots_are content held never one (Some slots) newest = (both_fit content slot (subst (λ (x : Gate). Fits g at slot x content) is (held_fits content held never one)) newest.0, newest.1)

    pub one_slots : (a b : S) (held : Held) → held ≡ Other → OnlyReads shelf (λ t. IsHeld g at slot gate (last t at.drive.0) held) a b → OnlyReads shelf (λ t. AreSlots g at head (last t at.drive.0) None) a b
    one_slots a b held other reads = record { same = reads.same; gave = λ t now. unfit_slots (last t at.drive.0) held other (reads.gave t now) }

    pub two_slots : {E : Type 0} (a b c : S) (held : Held) → (held ≡ Other → ⊥) → OnlyReads shelf (λ t. IsHeld g at slot gate (last t at.drive.0) held) a b
        → (result : Result (Option Slots) E) → OnlyReads shelf (λ t. IfOk result (IsNewestRead g at head (other_slot slot) (last t at.drive.0))) b c → OnlyReads shelf (λ t. IfOk result (AreSlots g at head (last t at.drive.0))) a c
    two_slots a b c held never one (Ok answer) two = record { same = two.same ∙ one.same; gave = λ t now. slots_are (last t at.drive.0) held never (one.gave t now) answer (two.gave t (one.same ∙ now)) }
    two_slots a b c held never one (Err fault) two = record { same = two.same ∙ one.same; gave = λ t now. tt }

  -- and how many reads they take
  module _ (slot : Slot) (gate : Gate) (is : gate ≡ gate_of head slot) (spare : IsSpareSlot head slot) (tie : slot ≡ Second → IsSpareSlot head First → ⊥) where
    all_slots : reads_of gate + reads_of (gate_of head (other_slot slot)) ≡ open_slots head
    all_slots = subst (λ (x : Gate). reads_of x + reads_of (gate_of head (other_slot slot)) ≡ open_slots head) (sym is) (both_slots head slot)

    unfit_first : (content : ℕ → List ℕ) (n : ℕ) → (Fits g at slot gate content → ⊥) → IsSlotBy at.place.blocks gate n → IsUnfitBy g at head content n
    unfit_first content n unfit by = record {
      slot = slot;
      spare = spare;
      tie = tie;
      reads = inl (subst (λ (x : Gate). Fits g at slot x content → ⊥) is unfit, subst (λ (x : Gate). IsSlotBy at.place.blocks x n) is by);
    }

    unfit_second : (content : ℕ → List ℕ) (k : ℕ) → Fits g at slot gate content → IsSlotBy at.place.blocks (gate_of head (other_slot slot)) k → IsUnfitBy g at head content (reads_of gate + k)
    unfit_second content k fits by = record {
      slot = slot;
      spare = spare;
      tie = tie;
      reads = inr (subst (λ (x : Gate). Fits g at slot x content) is fits, (k, by, ap (λ (x : Gate). reads_of x + k) is));
    }

    -- the one doesn't fit
    pub one_read : (E : Type 0) (a b : S) (held : Held) → held ≡ Other → IsHeldCounted {E = E} shelf a b at.place.blocks gate (Ok held) → OnlyReads shelf (λ t. IsHeld g at slot gate (last t at.drive.0) held) a b
        → IsCounted shelf a b 2 (λ t n. IsUnfitBy g at head (last t at.drive.0) n)
    one_read E a b Nothing other made reads = absurd (cc (other))
    one_read E a b (Kept mark table) other made reads = absurd (cc (other))
    one_read E a b Other other (n, by, made) reads =
        let few = slot_few at.place.blocks gate n by in
        let all = reads_few gate in
        record { calls = n; few = omega (arith, few, all); made = made; by = λ t now. unfit_first (last t at.drive.0) n (reads.gave t now) by }

    -- it does
    pub both_read : {T E : Type 0} (a b c : S) (held : Held) → (held ≡ Other → ⊥) → IsHeldCounted {E = E} shelf a b at.place.blocks gate (Ok held) → OnlyReads shelf (λ t. IsHeld g at slot gate (last t at.drive.0) held) a b
        → (result : Result (Option T) E) → AreReadFor shelf b c (reads_of (gate_of head (other_slot slot))) (IsSlotBy at.place.blocks (gate_of head (other_slot slot))) result → AreSlotsBy shelf g at head a c result
    both_read {E = E} a b c held never first reads (Ok (Some found)) second =
        reads_more shelf a b c (reads_of gate) (reads_of (gate_of head (other_slot slot))) (open_slots head) all_slots (slot_read shelf E a b at.place.blocks gate held never first) second
    both_read {E = E} a b c held never first reads (Ok None) (k, by, made) =
        let one = reads_few gate in
        let two = reads_few (gate_of head (other_slot slot)) in
        let few = slot_few at.place.blocks (gate_of head (other_slot slot)) k by in
        record {
          calls = reads_of gate + k;
          few = omega (arith, one, two, few);
          made = reads_more shelf a b c (reads_of gate) k (reads_of gate + k) refl (slot_read shelf E a b at.place.blocks gate held never first) made;
          by = λ t now. unfit_second (last t at.drive.0) k (held_fits slot gate is (last t at.drive.0) held never (reads.gave t now)) by;
        }
    both_read {E = E} a b c held never first reads (Err fault) second =
        let all = all_slots in
        few_more shelf a b c (reads_of gate) (reads_of (gate_of head (other_slot slot))) (open_slots head) (omega (arith, all))
        (few_of shelf a b (reads_of gate) (reads_of gate) (omega arith) (slot_read shelf E a b at.place.blocks gate held never first)) second
