-- Where a block lies in its extent.
use Rattle.std.proofs.Common.{◌≡◌, inl, inr, ℕ, ◌+◌, ◌-◌, ◌<◌, ◌≤◌, true, false, nat_lt, List, [], ◌∷◌, refl, sym, ◌∙◌, ap, arith, All}
use Rattle.std.proofs.lemmas.Bool.{cases_lt}
use Rattle.std.proofs.lemmas.Bool.Decides.{nat_tests}
use Rattle.std.proofs.lemmas.List.Elements.{All-tail}
use Rattle.mdv_soft.specs.Below.{IsExtent, Run}
use Rattle.mdv_soft.specs.Softs.{left_in, picked, total}
use Rattle.mdv_soft.specs.OneCopy.{picked_behind, picked_first, total-cons}

pub left_first : (r : Run) (extents : List Run) (b : ℕ) → b < r.blocks → left_in (r ∷ extents) b ≡ r.blocks - b
left_first r extents b lt = let is : nat_lt b r.blocks ≡ true = grind (arith, nat_tests) in rw is refl

pub left_behind : (r : Run) (extents : List Run) (b : ℕ) → r.blocks ≤ b → left_in (r ∷ extents) b ≡ left_in extents (b - r.blocks)
left_behind r extents b le = let is : nat_lt b r.blocks ≡ false = grind (arith, nat_tests) in rw is refl

-- these extents are the rest of those, and block `behind` of them is that block
pub record IsRest (all rest : List Run) (at behind : ℕ) : Type 0 where
  pub picked : picked rest behind ≡ picked all at
  pub left : left_in rest behind ≡ left_in all at
  pub within : behind < total rest

pub rest_is_all : (all : List Run) (at : ℕ) → at < total all → IsRest all all at at
rest_is_all all at lt = record { picked = refl; left = refl; within = lt }

pub rest_goes_on : (all : List Run) (r : Run) (rest : List Run) (at behind : ℕ) → IsRest all (r ∷ rest) at behind → r.blocks ≤ behind → IsRest all rest at (behind - r.blocks)
rest_goes_on all r rest at behind is le = record {
  picked = sym (picked_behind r rest behind le) ∙ is.picked;
  left = sym (left_behind r rest behind le) ∙ is.left;
  within = omega (arith, total-cons r rest, is.within);
}

pub found_block : (all : List Run) (r : Run) (rest : List Run) (at behind : ℕ) → IsRest all (r ∷ rest) at behind → behind < r.blocks → r.at + behind ≡ picked all at
found_block all r rest at behind is lt = sym (picked_first r rest behind lt) ∙ is.picked

pub found_left : (all : List Run) (r : Run) (rest : List Run) (at behind : ℕ) → IsRest all (r ∷ rest) at behind → behind < r.blocks → r.blocks - behind ≡ left_in all at
found_left all r rest at behind is lt = sym (left_first r rest behind lt) ∙ is.left

pub not_ended : (all : List Run) (at behind : ℕ) → IsRest all [] at behind → ⊥
not_ended all at behind is = omega (arith, is.within)

-- what is said of one block holds of all to the end of its extent
module _ where
  left_some : (extents : List Run) (b : ℕ) → b < total extents → 0 < left_in extents b
  left_some [] b lt = absurd (omega arith)
  left_some (r ∷ extents) b lt = elim (cases_lt b r.blocks) [
    | inl below ↦ omega (arith, left_first r extents b below)
    | inr behind ↦ omega (arith, left_behind r extents b behind, left_some extents (b - r.blocks) (omega (arith, total-cons r extents)))
  ]

  pub left_within : (extents : List Run) (b : ℕ) → b < total extents → (0 < left_in extents b) × (b + left_in extents b ≤ total extents)
  left_within [] b lt = absurd (omega arith)
  left_within (r ∷ extents) b lt = elim (cases_lt b r.blocks) [
    | inl below ↦ (left_some (r ∷ extents) b lt, omega (arith, left_first r extents b below, total-cons r extents))
    | inr behind ↦
        let there = left_within extents (b - r.blocks) (omega (arith, total-cons r extents)) in
        (left_some (r ∷ extents) b lt, omega (arith, left_behind r extents b behind, total-cons r extents, there.1))
  ]

  pub picked_along : (extents : List Run) (b k : ℕ) → k < left_in extents b → picked extents (b + k) ≡ picked extents b + k
  picked_along [] b k lt = absurd (omega arith)
  picked_along (r ∷ extents) b k lt = elim (cases_lt b r.blocks) [
    | inl below ↦
        let left = left_first r extents b below in
        picked_first r extents (b + k) (omega arith) ∙ omega (arith, picked_first r extents b below)
    | inr behind ↦
        let left = left_behind r extents b behind in
        let next : b + k - r.blocks ≡ b - r.blocks + k = omega arith in
        picked_behind r extents (b + k) (omega arith) ∙ ap (picked extents) next ∙ picked_along extents (b - r.blocks) k (omega arith) ∙ ap (λ (n : ℕ). n + k) (sym (picked_behind r extents b behind))
  ]

  pub picked_end : (n : ℕ) (extents : List Run) (b : ℕ) → All (IsExtent n) extents → b < total extents → picked extents b + left_in extents b ≤ n
  picked_end n [] b lie lt = absurd (omega arith)
  picked_end n (r ∷ extents) b lie lt = elim (cases_lt b r.blocks) [
    | inl below ↦
        let within = (lie 0 r (omega arith)).within in
        omega (arith, picked_first r extents b below, left_first r extents b below)
    | inr behind ↦
        let there = picked_end n extents (b - r.blocks) (All-tail (IsExtent n) r extents lie) (omega (arith, total-cons r extents)) in
        omega (arith, picked_behind r extents b behind, left_behind r extents b behind)
  ]
