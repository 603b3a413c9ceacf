-- The newest table of a replica.
use Rattle.std.proofs.Common.{◌≡◌, ℕ, Bool, true, false, ◌||◌, refl, sym, ◌∙◌, ap, arith}
use Rattle.mdv_replica.specs.Below.{IsBelow, Mark}
use Rattle.mdv_replica.specs.declared.forms.Gate.{Gate}
use Rattle.mdv_replica.specs.declared.forms.Gate.TheVariants.{Closed, Open}
use Rattle.mdv_replica.specs.declared.replica.Head.{Head}
use Rattle.mdv_replica.specs.declared.replica.Slot.{Slot}
use Rattle.mdv_replica.specs.declared.replica.Slot.TheVariants.{First, Second}
use Rattle.mdv_replica.specs.Form.{is_open, shows, gate_of, other_slot, with_slot, IsNewestGate, IsNewest, IsSpare, IsSpareSlot}
use Rattle.mdv_replica.specs.Laws.{NewestStays}

neither_below : (a b : Mark) → (IsBelow a b → ⊥) → (IsBelow b a → ⊥) → a ≡ b
neither_below a b not nor =
    let boot : a.boot ≡ b.boot = grind arith in
    let count : a.count ≡ b.count = grind arith in
    λ i. record { boot = boot i; count = count i }

same_open : (mark other : Mark) (bytes more : ℕ) → Open mark bytes ≡ Open other more → mark ≡ other
same_open mark other bytes more is = cc (is)

both_newest : (one two : Gate) (mark other : Mark) (bytes more : ℕ) → IsNewestGate one two → IsNewestGate two one → one ≡ Open mark bytes → two ≡ Open other more → mark ≡ other
both_newest Closed two mark other bytes more a b is also = absurd a
both_newest (Open m n) Closed mark other bytes more a b is also = absurd b
both_newest (Open m n) (Open k l) mark other bytes more a b is also = sym (same_open m mark n bytes is) ∙ neither_below m k a b ∙ same_open k other l more also

one_newest : (head : Head) (a b : Slot) (mark other : Mark) (bytes more : ℕ) → IsNewest head a → IsNewest head b → gate_of head a ≡ Open mark bytes → gate_of head b ≡ Open other more → mark ≡ other
one_newest head First First mark other bytes more one two is also = same_open mark other bytes more (sym is ∙ also)
one_newest head Second Second mark other bytes more one two is also = same_open mark other bytes more (sym is ∙ also)
one_newest head First Second mark other bytes more one two is also = both_newest head.first head.second mark other bytes more one two is also
one_newest head Second First mark other bytes more one two is also = both_newest head.second head.first mark other bytes more one two is also

either_way : (a b : Bool) → a || b ≡ true → b || a ≡ true
either_way true true is = refl
either_way true false is = refl
either_way false true is = refl
either_way false false is = is

beside_spare : (spare kept : Gate) → IsSpare spare kept → is_open spare || is_open kept ≡ true → IsNewestGate kept spare × IsNewestGate kept Closed
beside_spare Closed Closed fit shown = absurd (cc (shown))
beside_spare Closed (Open mark bytes) fit shown = (tt, tt)
beside_spare (Open mark bytes) Closed fit shown = absurd fit
beside_spare (Open mark bytes) (Open other more) fit shown = (fit, tt)

beside_slot : (head : Head) (slot : Slot) → IsSpareSlot head slot → shows head ≡ true → IsNewest head (other_slot slot) × IsNewest (with_slot head slot Closed) (other_slot slot)
beside_slot head First spare shown = beside_spare head.first head.second spare shown
beside_slot head Second spare shown = beside_spare head.second head.first spare (either_way (is_open head.first) (is_open head.second) shown)

above_gate : (mark : Mark) (bytes : ℕ) (gate : Gate) → ((other : Mark) (more : ℕ) → gate ≡ Open other more → IsBelow mark other → ⊥) → IsNewestGate (Open mark bytes) gate
above_gate mark bytes Closed above = tt
above_gate mark bytes (Open other more) above = above other more refl

above_slot : (head : Head) (slot : Slot) (mark : Mark) (bytes : ℕ) → ((other : Mark) (more : ℕ) → gate_of head (other_slot slot) ≡ Open other more → IsBelow mark other → ⊥) → IsNewest (with_slot head slot (Open mark bytes)) slot
above_slot head First mark bytes above = above_gate mark bytes head.second above
above_slot head Second mark bytes above = above_gate mark bytes head.first above

open_gate : (newest other : Gate) → IsNewestGate newest other → is_open newest ≡ true
open_gate Closed other is = absurd is
open_gate (Open mark bytes) other is = refl

still_shown : (head : Head) (slot : Slot) (gate : Gate) → IsSpareSlot head slot → shows head ≡ true → shows (with_slot head slot gate) ≡ true
still_shown head First gate spare shown =
    either_way (is_open head.second) (is_open gate) (ap (λ (b : Bool). b || is_open gate) (open_gate head.second head.first (beside_slot head First spare shown).0))
still_shown head Second gate spare shown =
    ap (λ (b : Bool). b || is_open gate) (open_gate head.first head.second (beside_slot head Second spare shown).0)

pub newest_stays : NewestStays
newest_stays = record {
  one = one_newest;
  beside = λ head slot spare shown. (beside_slot head slot spare shown).0;
  closed = λ head slot spare shown. (beside_slot head slot spare shown).1;
  shown = still_shown;
  above = above_slot;
}
