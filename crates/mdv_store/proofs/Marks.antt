-- The marks of an open database's replicas.
use Rattle.std.proofs.Common.{◌≡◌, ◌⊎◌, inl, inr, ◌<◌, ◌≤◌, ◌+◌, ◌^◌, ℕ, List, Contains, sym, subst, ap, arith}
use Rattle.mdv_store.specs.Below.{Failures, First, HasNoneAbove, Head, IsBelow, IsMark, Mark, Open, Replica, Second, Slot, at_of, gate_of, with_slot}
use Rattle.mdv_store.specs.Commit.{next_mark}
use Rattle.mdv_store.specs.Seats.{AreLeft, IsLaid, TakesSlot, replicas_of}
use Rattle.mdv_store.specs.Slots.{AreAbove}
use Rattle.mdv_store.specs.declared.seats.Seat.{Seat}
use Rattle.mdv_store.proofs.Sitting.{left_replica}

pub next_is_mark : (mark : Mark) → mark.boot < 2 ^ 63 → mark.count + 1 < 2 ^ 63 → IsMark (next_mark mark)
next_is_mark mark boot count = record { boot = boot; count = count }

either : (a b : ℕ) → (a < b) ⊎ (b ≤ a)
either a b = grind arith

-- a mark that isn't above another one is below that one's next
below_next : (mark other : Mark) → (IsBelow mark other → ⊥) → IsBelow other (next_mark mark)
below_next mark other never = elim (either other.boot mark.boot) [
  | inl less ↦ inl less
  | inr least ↦ elim (either mark.boot other.boot) [
    | inl more ↦ absurd (never (inl more))
    | inr most ↦ elim (either mark.count other.count) [
      | inl more ↦ absurd (never (inr (omega arith, more)))
      | inr few ↦ inr (omega arith, omega arith)
    ]
  ]
]

above_next : (mark other : Mark) → IsBelow (next_mark mark) other → IsBelow mark other
above_next mark other (inl more) = inl more
above_next mark other (inr same) = inr (same.0, omega (arith, same.1))

pub are_above : (mark : Mark) (seats : List Seat) → ((r : Replica) → Contains (replicas_of seats) r → HasNoneAbove mark r.head) → AreAbove (next_mark mark) seats
are_above mark seats none r has slot other bytes is = below_next mark other (none r has slot other bytes is)

same_mark : (a b : Mark) (n m : ℕ) → Open a n ≡ Open b m → a ≡ b
same_mark a b n m is = cc (is)

not_itself : (mark : Mark) → IsBelow mark mark → ⊥
not_itself mark (inl less) = omega arith
not_itself mark (inr less) = omega (arith, less.1)

-- a head with this mark in a slot has none above it, where it had none above the one before
taken_none_above : (mark : Mark) (head : Head) (slot other : Slot) (m : Mark) (bytes n : ℕ) → HasNoneAbove mark head → gate_of (with_slot head slot (Open (next_mark mark) bytes)) other ≡ Open m n → IsBelow (next_mark mark) m → ⊥
taken_none_above mark head First First m bytes n none is below = not_itself (next_mark mark) (subst (λ (x : Mark). IsBelow (next_mark mark) x) (sym (same_mark (next_mark mark) m bytes n is)) below)
taken_none_above mark head First Second m bytes n none is below = none Second m n is (above_next mark m below)
taken_none_above mark head Second First m bytes n none is below = none First m n is (above_next mark m below)
taken_none_above mark head Second Second m bytes n none is below = not_itself (next_mark mark) (subst (λ (x : Mark). IsBelow (next_mark mark) x) (sym (same_mark (next_mark mark) m bytes n is)) below)

-- a replica that took a slot lies where it lay
pub slot_stays : (mark : Mark) (bytes : ℕ) (r n : Replica) → TakesSlot mark bytes r n → at_of n ≡ at_of r
slot_stays mark bytes r n took = ap at_of took.2

-- and within its drive
pub slot_laid : (mark : Mark) (bytes : ℕ) (sizes : List ℕ) (r n : Replica) → TakesSlot mark bytes r n → IsLaid sizes r → IsLaid sizes n
slot_laid mark bytes sizes r n took is = subst (λ (x : Replica). IsLaid sizes x) (sym took.2) (record { placed = is.placed; short = is.short })

-- behind a pass none has a mark above the written one
pub left_none_above : (failed : ℕ → Failures) (mark : Mark) (bytes : ℕ) (old new : List Seat) → AreLeft failed (TakesSlot (next_mark mark) bytes) old new → ((r : Replica) → Contains (replicas_of old) r → HasNoneAbove mark r.head)
    → (n : Replica) → Contains (replicas_of new) n → HasNoneAbove (next_mark mark) n.head
left_none_above failed mark bytes old new left none n has =
    let one = left_replica failed (TakesSlot (next_mark mark) bytes) old new n left has in
    let took = one.2 in
    subst (λ (r : Replica). HasNoneAbove (next_mark mark) r.head) (sym took.2) (λ other m k is below. taken_none_above mark one.0.head took.0 other m bytes k (none one.0 one.1) is below)
