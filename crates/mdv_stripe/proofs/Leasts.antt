-- The shortest of some columns.
use Rattle.std.proofs.Common.{◌≡◌, ℕ, suc, ◌+◌, ◌<◌, ◌≤◌, inl, inr, List, [], ◌∷◌, length, min, nat_lt, arith, subst, ◌∙◌}
use Rattle.mdv_shelf.proofs.Blocks.{both_ways}
use Rattle.mdv_map.proofs.Copies.{le_of_test, lt_of_test}
use Rattle.mdv_stripe.specs.Below.{Map, column_at}
use Rattle.mdv_stripe.specs.Stripes.{least}
use Rattle.mdv_stripe.specs.OneCopy.{least_below}

-- one of the columns has so many blocks, and none of the first ones has fewer
pub record IsLeastYet (columns : List Map) (seen n : ℕ) : Type 0 where
  pub low : (k : ℕ) → k < seen → n ≤ (column_at columns k).blocks
  pub index : ℕ
  pub listed : index < length columns
  pub is : n ≡ (column_at columns index).blocks

pub least_first : (columns : List Map) (n : ℕ) → 0 < length columns → n ≡ (column_at columns 0).blocks → IsLeastYet columns 0 n
least_first columns n some is = record { low = λ k lt. absurd (omega arith); index = 0; listed = some; is = is }

pub least_more : (columns : List Map) (seen n m : ℕ) → IsLeastYet columns seen n → seen < length columns → m ≡ (column_at columns seen).blocks → IsLeastYet columns (seen + 1) (min n m)
least_more columns seen n m yet lt is = elim (both_ways (nat_lt n m)) [
  | inl first ↦
      let below = lt_of_test n m first in
      let same : min n m ≡ n = omega arith in
      record {
        low = λ k below. low_more k below;
        index = yet.index;
        listed = yet.listed;
        is = same ∙ yet.is;
      }
  | inr second ↦
      let above = le_of_test n m second in
      let same : min n m ≡ m = omega arith in
      record {
        low = λ k below. low_more k below;
        index = seen;
        listed = lt;
        is = same ∙ is;
      }
]
  where
    low_more : (k : ℕ) → k < seen + 1 → min n m ≤ (column_at columns k).blocks
    low_more k below = elim (both_ways (nat_lt k seen)) [
      | inl does ↦ let there = yet.low k (lt_of_test k seen does) in omega arith
      | inr not ↦
          let above = le_of_test k seen not in
          let same : seen ≡ k = omega arith in
          subst (λ (i : ℕ). min n m ≤ (column_at columns i).blocks) same (omega (arith, is))
    ]

least_all : (columns : List Map) (n : ℕ) → 0 < length columns → ((k : ℕ) → k < length columns → n ≤ (column_at columns k).blocks) → n ≤ least columns
least_all [] n some low = absurd (omega arith)
least_all (v ∷ []) n some low = low 0 (omega arith)
least_all (v ∷ w ∷ vs) n some low =
    let first = low 0 (omega arith) in
    let rest = least_all (w ∷ vs) n (omega arith) (λ k lt. low (suc k) (omega arith)) in omega arith

pub least_found : (columns : List Map) (n : ℕ) → IsLeastYet columns (length columns) n → n ≡ least columns
least_found columns n yet =
    let listed = yet.listed in
    let low = least_all columns n (omega arith) yet.low in
    let high = least_below columns yet.index yet.listed in omega (arith, yet.is)
