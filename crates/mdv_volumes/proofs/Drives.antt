-- Sets of drives without one, or without some.
use Rattle.std.proofs.Common.{◌≡◌, inl, inr, ℕ, zero, suc, ◌&&◌, ◌||◌, ◌==◌, Bool, true, false, not, List, [], ◌∷◌, map, slice_index_or, refl, sym, ◌∙◌, ap, arith}
use Rattle.std.specs.List.{list_any}
use Rattle.std.proofs.lemmas.Bool.Decides.{nat_tests}
use Rattle.mdv_base.specs.DriveSet.{has_drive}
use Rattle.mdv_databases.proofs.Lists.{key_itself}
use Rattle.mdv_shelf.proofs.Blocks.{both_ways}
use Rattle.mdv_volumes.specs.Below.{DriveNo, Drives, Key}
use Rattle.mdv_volumes.specs.History.{History, Unsettles, history_after, history_after_all, without_at, without_drive}

none_of : (b : Bool) → false ≡ b && false
none_of true = refl
none_of false = refl

all_of : (b : Bool) → b ≡ b && true
all_of true = refl
all_of false = refl

zero_suc : (n : ℕ) → zero == suc n ≡ false
zero_suc n = grind (arith, nat_tests)

suc_zero : (n : ℕ) → suc n == zero ≡ false
suc_zero n = grind (arith, nat_tests)

same_suc : (n m : ℕ) → m == n ≡ true → suc m == suc n ≡ true
same_suc n m is = grind (arith, nat_tests)

other_suc : (n m : ℕ) → m == n ≡ false → suc m == suc n ≡ false
other_suc n m is = grind (arith, nat_tests)

suc_suc : (n m : ℕ) → suc m == suc n ≡ (m == n)
suc_suc n m = elim (both_ways (m == n)) [ inl does ↦ same_suc n m does ∙ sym does | inr never ↦ other_suc n m never ∙ sym never ]

has_at : (set : Drives) (n m : ℕ) → slice_index_or (without_at n set) m false ≡ slice_index_or set m false && not (m == n)
has_at [] n m = refl
has_at (has ∷ set) zero zero = none_of has
has_at (has ∷ set) zero (suc m) = let test = suc_zero m in rw test (all_of (slice_index_or set m false))
has_at (has ∷ set) (suc n) zero = let test = zero_suc n in rw test (all_of has)
has_at (has ∷ set) (suc n) (suc m) = let test = suc_suc n m in rw test (has_at set n m)

-- the set has all of its drives but that one
pub has_without : (set : Drives) (drive other : DriveNo) → has_drive (without_drive set drive) other ≡ has_drive set other && not (other.0 == drive.0)
has_without set drive other = has_at set drive.0 other.0

one_more : (here : Bool) (it any : Bool) → (here && not it) && not any ≡ here && not (it || any)
one_more true true any = refl
one_more true false any = refl
one_more false it any = refl

-- and behind events by which some become unsteady those are up that were but for these
pub up_without : (key : Key) (drives : List DriveNo) (h : History) (other : DriveNo) → has_drive ((history_after_all h (map (Unsettles key) drives)).up key) other ≡ has_drive (h.up key) other && not (list_any (λ (d : DriveNo). other.0 == d.0) drives)
up_without key [] h other = all_of (has_drive (h.up key) other)
up_without key (drive ∷ drives) h other =
    let itself = key_itself key in
    let first : has_drive ((history_after h (Unsettles key drive)).up key) other ≡ has_drive (h.up key) other && not (other.0 == drive.0) = rw itself (has_without (h.up key) drive other) in
    up_without key drives (history_after h (Unsettles key drive)) other
    ∙ ap (λ (b : Bool). b && not (list_any (λ (d : DriveNo). other.0 == d.0) drives)) first
    ∙ one_more (has_drive (h.up key) other) (other.0 == drive.0) (list_any (λ (d : DriveNo). other.0 == d.0) drives)
