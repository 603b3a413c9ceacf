-- Each block of a soft partition is one block of the base and has one copy where the base's have, and there are no more of them than the base has.
use Rattle.std.specs.Prelude.{◌≡◌, ℕ, zero, suc, ◌+◌, ◌-◌, ◌^◌, ◌<◌, ◌≤◌, ◌&&◌, ◌||◌, Bool, true, false, nat_le, nat_lt, min, List, [], ◌∷◌, length, if◌then◌else◌, refl}
use Rattle.std.specs.List.{All}
use Rattle.std.proofs.Common.{inl, inr, ◌∙◌, ap, arith}
use Rattle.std.proofs.lemmas.Bool.{cases_Bool, cases_lt}
use Rattle.std.proofs.lemmas.Bool.Decides.{nat_tests}
use Rattle.std.proofs.lemmas.List.Elements.{All-tail}
use Rattle.std.proofs.lemmas.List.Sums.{sum_by-cons}
use Rattle.mdv_dev.specs.Pieces.{count_to}
use Rattle.mdv_dev.specs.Together.{lies_where}
use Rattle.mdv_soft.specs.Below.{IsApart, IsExtent, IsOneCopy, LieApart, LiesAs, Map, Run, end_of, has, takes, with_header}
use Rattle.mdv_soft.specs.Softs.{IsSoft, picked, soft_on, total}

pub total-cons : (r : Run) (extents : List Run) → total (r ∷ extents) ≡ r.blocks + total extents
total-cons r extents = sum_by-cons (λ (s : Run). s.blocks) r extents

-- a block is one of the first extent, or one of those behind it
pub picked_first : (r : Run) (extents : List Run) (b : ℕ) → b < r.blocks → picked (r ∷ extents) b ≡ r.at + b
picked_first r extents b lt = let is : nat_lt b r.blocks ≡ true = grind (arith, nat_tests) in rw is refl

pub picked_behind : (r : Run) (extents : List Run) (b : ℕ) → r.blocks ≤ b → picked (r ∷ extents) b ≡ picked extents (b - r.blocks)
picked_behind r extents b le = let is : nat_lt b r.blocks ≡ false = grind (arith, nat_tests) in rw is refl

pub picked_within : (n : ℕ) (extents : List Run) (b : ℕ) → All (IsExtent n) extents → b < total extents → picked extents b < n
picked_within n [] b lie lt = absurd (omega arith)
picked_within n (r ∷ extents) b lie lt = elim (cases_lt b r.blocks) [
  | inl below ↦
      let within = (lie 0 r (omega arith)).within in
      omega (arith, picked_first r extents b below)
  | inr behind ↦
      let there = picked_within n extents (b - r.blocks) (All-tail (IsExtent n) r extents lie) (omega (arith, total-cons r extents)) in
      omega (arith, picked_behind r extents b behind)
]

pub lies_as : (v : Map) (extents : List Run) (b : ℕ) → LieApart v.blocks extents → b < total extents → LiesAs (soft_on v extents) b v (picked extents b)
lies_as v extents b apart lt = record { below = picked_within v.blocks extents b apart.lie lt; copies = refl; places = refl }

pub soft_one : (v : Map) (extents : List Run) → IsOneCopy v → IsSoft v.blocks extents → IsOneCopy (soft_on v extents)
soft_one v extents one is b lt =
    let same = lies_as v extents b is.are.on_base lt in
    let there = one (picked extents b) same.below in
    (there.0, there.1, lies_where (soft_on v extents) v b (picked extents b) there.0 there.1 same there.2)

-- how many numbers pass a test
count_most : (test : ℕ → Bool) (n : ℕ) → count_to test n ≤ n
unfolding count_to
count_most test zero = omega arith
count_most test (suc n) = elim (cases_Bool (test n)) [
  | inl does ↦ rw does (omega (arith, count_most test n))
  | inr not ↦ rw not (omega (arith, count_most test n))
]

-- one of two tests, and none both
one_of : (p q t : Bool) → t ≡ (p || q) → (p ≡ true → q ≡ false) → (if t then 1 else 0) ≡ (if p then 1 else 0) + (if q then 1 else 0)
one_of true q t is not = rw (is, not refl) refl
one_of false true t is not = rw is refl
one_of false false t is not = rw is refl

count_either : (p q t : ℕ → Bool) (n : ℕ) → ((k : ℕ) → t k ≡ (p k || q k)) → ((k : ℕ) → p k ≡ true → q k ≡ false) → count_to t n ≡ count_to p n + count_to q n
unfolding count_to
count_either p q t zero is not = refl
count_either p q t (suc n) is not = omega (arith, count_either p q t n is not, one_of (p n) (q n) (t n) (is n) (not n))

in_run : (at end n : ℕ) → min n end - at + (if nat_le at n && nat_lt n end then 1 else 0) ≡ min (suc n) end - at
in_run at end n = grind (arith, nat_tests)

count_run : (r : Run) (n : ℕ) → count_to (has r) n ≡ min n (end_of r) - r.at
unfolding count_to
count_run r zero = omega arith
count_run r (suc n) = ap (λ (m : ℕ). m + (if has r n then 1 else 0)) (count_run r n) ∙ in_run r.at (end_of r) n

count_nothing : (n : ℕ) → count_to (takes []) n ≡ 0
unfolding count_to
count_nothing zero = refl
count_nothing (suc n) = omega (arith, count_nothing n)

-- extents with their headers have as many blocks as all of them together
taken_all : (n : ℕ) (extents : List Run) → All (IsExtent n) extents → IsApart extents → count_to (takes extents) n ≡ total extents + length extents
taken_all n [] lie apart = count_nothing n
taken_all n (r ∷ extents) lie apart =
    let extent : IsExtent n r = lie 0 r (omega arith) in
    let here = count_run (with_header r) n in
    let there = taken_all n extents (All-tail (IsExtent n) r extents lie) apart.1 in
    let both = count_either (has (with_header r)) (takes extents) (takes (r ∷ extents)) n (λ k. refl) apart.0 in
    omega (arith, total-cons r extents, extent.header, extent.within)

pub room : (n : ℕ) (extents : List Run) → LieApart n extents → total extents + length extents ≤ n
room n extents is = omega (arith, taken_all n extents is.lie is.apart, count_most (takes extents) n)

pub soft_bounded : (v : Map) (extents : List Run) → v.blocks < 2 ^ 64 → IsSoft v.blocks extents → (soft_on v extents).blocks < 2 ^ 64
soft_bounded v extents bounded is = omega (arith, room v.blocks extents is.are.on_base)
