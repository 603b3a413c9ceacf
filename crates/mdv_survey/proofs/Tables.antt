-- What the two slots of a replica show.
use Rattle.std.proofs.Common.{◌≡◌, ℕ, List, refl, sym, ◌∙◌, subst, arith}
use Rattle.mdv_replica.specs.Form.{IsNewest, IsNewestGate, IsSpare}
use Rattle.mdv_survey.specs.Below.{Closed, First, Gate, Geometry, Head, IsBelow, IsSpareSlot, Mark, Open, PlaceAt, Second, Slot, Table, gate_of, other_slot}
use Rattle.mdv_survey.specs.Newest.{HasNoneAbove, IsLastOfBoth}
use Rattle.mdv_survey.specs.Slots.{BothFit, Fits, IsKept}

not_below_own : (mark m : Mark) (bytes n : ℕ) (gate : Gate) → gate ≡ Open mark bytes → gate ≡ Open m n → IsBelow mark m → ⊥
not_below_own mark m bytes n gate is also below =
    let same : Open mark bytes ≡ Open m n = sym is ∙ also in
    let marks : mark ≡ m = cc (same) in
    own m (subst (λ (x : Mark). IsBelow x m) marks below)
  where
    own : (x : Mark) → IsBelow x x → ⊥
    own x below = grind arith

not_below_other : (mark m : Mark) (bytes n : ℕ) (one two : Gate) → IsNewestGate one two → one ≡ Open mark bytes → two ≡ Open m n → IsBelow mark m → ⊥
not_below_other mark m bytes n one two newest is also below =
    subst (λ (x : Gate). IsNewestGate x (Open m n)) is (subst (λ (x : Gate). IsNewestGate one x) also newest) below

-- no slot has a greater mark than the one with the newest table
pub newest_greatest : (head : Head) (slot : Slot) (mark : Mark) (bytes : ℕ) → IsNewest head slot → gate_of head slot ≡ Open mark bytes → HasNoneAbove mark head
newest_greatest head First mark bytes newest is First m n also = not_below_own mark m bytes n head.first is also
newest_greatest head First mark bytes newest is Second m n also = not_below_other mark m bytes n head.first head.second newest is also
newest_greatest head Second mark bytes newest is First m n also = not_below_other mark m bytes n head.second head.first newest is also
newest_greatest head Second mark bytes newest is Second m n also = not_below_own mark m bytes n head.second is also

-- beside the spare slot, the first one of both, the newest is the second
pub newest_last : (head : Head) (slot : Slot) (mark : Mark) (bytes : ℕ) → (slot ≡ First → IsSpareSlot head First → ⊥) → gate_of head slot ≡ Open mark bytes → IsLastOfBoth head slot mark
newest_last head First mark bytes tie is same n also =
    tie same (subst (λ (x : Gate). IsSpare x head.second) (sym is) (subst (λ (x : Gate). IsSpare (Open mark bytes) x) (sym also) (not_below_own mark mark bytes bytes (Open mark bytes) refl refl)))
newest_last head Second mark bytes tie is same n also = absurd (cc (same))

pub spare_behind : (head : Head) (slot : Slot) → (slot ≡ Second → IsSpareSlot head First → ⊥) → other_slot slot ≡ First → IsSpareSlot head First → ⊥
spare_behind head First tie other = absurd (cc (other))
spare_behind head Second tie other = tie refl

-- the newest slot is open
pub newest_open : (head : Head) (slot : Slot) (gate : Gate) → gate ≡ gate_of head slot → IsNewest head slot → gate ≡ Closed → ⊥
newest_open head slot gate is newest closed = subst (λ (x : Gate). IsNewestGate x (gate_of head (other_slot slot))) (sym is ∙ closed) newest

module _ (g : Geometry) (at : PlaceAt) (content : ℕ → List ℕ) where
  pub kept_fits : (slot : Slot) (gate : Gate) (mark : Mark) (table : Table) → IsKept g at slot gate content mark table → Fits g at slot gate content
  kept_fits slot gate mark table kept = subst (λ (x : Gate). Fits g at slot x content) (sym kept.is) (kept.in_room, (table, kept.text))

  pub closed_fits : (slot : Slot) (gate : Gate) → gate ≡ Closed → Fits g at slot gate content
  closed_fits slot gate closed = subst (λ (x : Gate). Fits g at slot x content) (sym closed) tt

  -- both fit where one slot and then the other does
  pub both_fit : (head : Head) (slot : Slot) → Fits g at slot (gate_of head slot) content → Fits g at (other_slot slot) (gate_of head (other_slot slot)) content → BothFit g at head content
  both_fit head First one other = record { first = one; second = other }
  both_fit head Second one other = record { first = other; second = one }

  pub fits_of : (head : Head) (slot : Slot) → BothFit g at head content → Fits g at slot (gate_of head slot) content
  fits_of head First both = both.first
  fits_of head Second both = both.second
