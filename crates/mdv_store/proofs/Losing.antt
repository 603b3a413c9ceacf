-- On how many drives replicas lie, and how many of them a pass leaves.
use Rattle.std.proofs.Common.{◌≡◌, inl, inr, ℕ, ◌+◌, ◌-◌, ◌*◌, ◌<◌, ◌≤◌, ◌==◌, ◌||◌, Bool, true, false, not, cond, List, [], ◌∷◌, ◌++◌, length, map, Contains, Option, refl, sym, ◌∙◌, ap, subst, mul-le-mul_left, arith}
use Rattle.std.specs.List.{list_any}
use Rattle.std.proofs.lemmas.Bool.{false_from_ne_true, or_left, or_right}
use Rattle.std.proofs.lemmas.Bool.Decides.{nat_tests}
use Rattle.std.proofs.lemmas.List.{length-map, map-append}
use Rattle.mdv_shelf.specs.Between.{RoseByAtLeast}
use Rattle.mdv_store.specs.Below.{DriveNo, Ghosts, Replica}
use Rattle.mdv_store.specs.Counts.{ArePassCounted, different, drives_lost}
use Rattle.mdv_store.specs.Passing.{beside}
use Rattle.mdv_store.specs.Seats.{active_of, drive_of, replicas_of}
use Rattle.mdv_store.specs.declared.seats.Seat.{Seat}
use Rattle.mdv_store.proofs.Sitting.{first_or_behind}

-- one of the replicas lies on the drive of this number
abbrev pub lies_on : ℕ → List Replica → Bool
lies_on d rs = list_any (λ (m : ℕ). m == d) (map drive_of rs)

pub lies_here : (rs : List Replica) (r : Replica) → Contains rs r → lies_on (drive_of r) rs ≡ true
lies_here [] r has = absurd (omega (arith, has.1))
lies_here (x ∷ rs) r has = elim (first_or_behind x r rs has) [
  | inl here ↦ (let same = ap drive_of here in or_left (drive_of x == drive_of r) (lies_on (drive_of r) rs) (grind (arith, nat_tests)))
  | inr there ↦ or_right (drive_of x == drive_of r) (lies_on (drive_of r) rs) (lies_here rs r there)
]

module _ (drive : DriveNo) where
  none_beside : (rs : List Replica) → lies_on drive.0 rs ≡ false → beside drive rs ≡ rs
  none_beside [] none = refl
  none_beside (x ∷ rs) none = by (drive_of x == drive.0) none (none_beside rs) where
    by : (b : Bool) → (b || lies_on drive.0 rs) ≡ false → (lies_on drive.0 rs ≡ false → beside drive rs ≡ rs) → cond (not b) (x ∷ beside drive rs) (beside drive rs) ≡ x ∷ rs
    by true is rest = absurd (cc (is))
    by false is rest = ap (λ (l : List Replica). x ∷ l) (rest is)

  -- those of another drive stay
  others_beside : (d : ℕ) → (d == drive.0) ≡ false → (rs : List Replica) → lies_on d (beside drive rs) ≡ lies_on d rs
  others_beside d apart [] = refl
  others_beside d apart (x ∷ rs) = by (drive_of x == drive.0) refl (others_beside d apart rs) where
    by : (b : Bool) → (drive_of x == drive.0) ≡ b → lies_on d (beside drive rs) ≡ lies_on d rs → lies_on d (cond (not b) (x ∷ beside drive rs) (beside drive rs)) ≡ ((drive_of x == d) || lies_on d rs)
    by true here same =
        let other : (drive_of x == d) ≡ false = false_from_ne_true (drive_of x == d) (λ e. grind (arith, nat_tests)) in
        same ∙ sym (ap (λ (b : Bool). b || lies_on d rs) other)
    by false away same = ap (λ (b : Bool). (drive_of x == d) || b) same

  -- how many drives these lie on, and how many without those of the one
  abbrev all : List Replica → ℕ
  all rs = different (map drive_of rs)

  abbrev less : List Replica → ℕ
  less rs = different (map drive_of (beside drive rs))

  one_here : (rs : List Replica) (e : Bool) → lies_on drive.0 rs ≡ e → (lies_on drive.0 rs ≡ true → less rs + 1 ≡ all rs) → less rs + 1 ≡ cond e (all rs) (all rs + 1)
  one_here rs true more rest = rest more
  one_here rs false none rest = ap (λ (l : List Replica). different (map drive_of l) + 1) (none_beside rs none)

  one_away : (rs : List Replica) (e : Bool) → less rs + 1 ≡ all rs → cond e (less rs) (less rs + 1) + 1 ≡ cond e (all rs) (all rs + 1)
  one_away rs true rest = rest
  one_away rs false rest = omega (arith, rest)

  -- without those of one drive there is one less
  pub one_less : (rs : List Replica) → lies_on drive.0 rs ≡ true → less rs + 1 ≡ all rs
  one_less [] has = absurd (cc (has))
  one_less (x ∷ rs) has = by (drive_of x == drive.0) refl has (one_less rs) where
    by : (b : Bool) → (drive_of x == drive.0) ≡ b → (b || lies_on drive.0 rs) ≡ true → (lies_on drive.0 rs ≡ true → less rs + 1 ≡ all rs)
        → different (map drive_of (cond (not b) (x ∷ beside drive rs) (beside drive rs))) + 1 ≡ cond (lies_on (drive_of x) rs) (all rs) (all rs + 1)
    by true on more rest =
        let same : drive.0 ≡ drive_of x = grind (arith, nat_tests) in
        subst (λ (d : ℕ). less rs + 1 ≡ cond (lies_on d rs) (all rs) (all rs + 1)) same (one_here rs (lies_on drive.0 rs) refl rest)
    by false off more rest =
        subst (λ (e : Bool). cond e (less rs) (less rs + 1) + 1 ≡ cond (lies_on (drive_of x) rs) (all rs) (all rs + 1)) (sym (others_beside (drive_of x) off rs)) (one_away rs (lies_on (drive_of x) rs) (rest more))

-- another replica of the drive counts as the one in its stead
pub as_many : (front rest : List Replica) (r n : Replica) → drive_of n ≡ drive_of r → different (map drive_of (front ++ n ∷ rest)) ≡ different (map drive_of (front ++ r ∷ rest))
as_many front rest r n same =
    ap different (map-append drive_of front (n ∷ rest) ∙ ap (λ (d : ℕ). map drive_of front ++ d ∷ map drive_of rest) same ∙ sym (map-append drive_of front (r ∷ rest)))

-- some replica lies on some drive
some_drive : (ns : List ℕ) → 0 < length ns → 1 ≤ different ns
some_drive [] some = absurd (omega (arith, some))
some_drive (n ∷ ns) some = by (list_any (λ (m : ℕ). m == n) ns) refl (some_drive ns) where
  found : (ms : List ℕ) → list_any (λ (m : ℕ). m == n) ms ≡ true → 0 < length ms
  found [] is = absurd (cc (is))
  found (m ∷ ms) is = omega arith

  by : (b : Bool) → list_any (λ (m : ℕ). m == n) ns ≡ b → (0 < length ns → 1 ≤ different ns) → 1 ≤ cond b (different ns) (different ns + 1)
  by true more rest = rest (found ns more)
  by false none rest = omega arith

-- a place of those that were active is active, or a drive was left
pub left_or_lost : (each : ℕ) (before now : List Seat) → 1 ≤ each → 0 < active_of before → 1 ≤ each * active_of now + drives_lost before now
left_or_lost each before now least some = by (replicas_of now) where
  by : (rs : List Replica) → 1 ≤ each * length rs + (different (map drive_of (replicas_of before)) - different (map drive_of rs))
  by [] = (let one = some_drive (map drive_of (replicas_of before)) (omega (arith, some, length-map (replicas_of before) drive_of)) in omega (arith, one))
  by (r ∷ rs) = (let more = mul-le-mul_left each (one_more rs) in omega (arith, more, least))
    where
      one_more : (rs : List Replica) → 1 ≤ length (r ∷ rs)
      one_more rs = omega arith

-- a count rose by no less than that
pub rose_less : (j l : ℕ) (a b : Option ℕ) → l ≤ j → RoseByAtLeast j a b → RoseByAtLeast l a b
rose_less j l a b le rose n is = (let one = rose n is in let up = one.2 in (one.0, one.1, omega (arith, up, le)))

pub rose_then : (j k l : ℕ) (a b c : Option ℕ) → l ≤ j + k → RoseByAtLeast j a b → RoseByAtLeast k b c → RoseByAtLeast l a c
rose_then j k l a b c le first second n is =
    let one = first n is in
    let two = second one.0 one.1 in
    (two.0, two.1, (let up = one.2 in let more = two.2 in omega (arith, up, more, le)))

-- a pass over active places begins to write
pub pass_wrote : {S : Type 0} (shelf : Ghosts S) (old new : S) (calls blocks : ℕ) (before now : List Seat) → 1 ≤ blocks → 0 < active_of before → ArePassCounted shelf old new calls blocks before now → RoseByAtLeast 1 (shelf.written old) (shelf.written new)
pass_wrote shelf old new calls blocks before now least some counted =
    rose_less (blocks * active_of now + drives_lost before now) 1 (shelf.written old) (shelf.written new) (left_or_lost blocks before now least some) counted.wrote
