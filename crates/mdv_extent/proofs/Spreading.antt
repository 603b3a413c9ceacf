-- Runs with a block between any two, and that their blocks tell them.
use Rattle.std.proofs.Common.{◌≡◌, ◌≤◌, ◌<◌, ◌+◌, ◌-◌, ◌&&◌, ◌||◌, inl, inr, ℕ, Bool, true, false, not, leb, ltb, min, max, List, [], ◌∷◌, ◌++◌, refl, sym, subst, ◌∙◌, arith}
use Rattle.std.proofs.lemmas.Bool.{cases_lt, or_parts, or_left, and_parts, leb-true, ltb-true, false≢true}
use Rattle.std.proofs.lemmas.Bool.Decides.{nat_tests}
use Rattle.mdv_extent.specs.declared.run.Run.{Run}
use Rattle.mdv_extent.specs.Runs.{end_of, has, covers, takes, with_header, IsSpread, IsInOrder}
use Rattle.mdv_extent.specs.Free.{between, without, free_of, IsFree}
use Rattle.mdv_extent.proofs.Covering.{covers-free_of}

pub between-some : (low high : ℕ) → low < high → between low high ≡ record { at = low; blocks = high - low } ∷ []
between-some low high lt = grind (arith, nat_tests)

pub between-none : (low high : ℕ) → high ≤ low → between low high ≡ []
between-none low high le = grind (arith, nat_tests)

pub spread_wider : (low high : ℕ) (runs : List Run) → low ≤ high → IsSpread high runs → IsSpread low runs
spread_wider low high [] le spread = tt
spread_wider low high (r ∷ runs) le spread = (omega (arith, spread.0), spread.1, spread.2)

pub spread-between : (low from to : ℕ) (runs : List Run) → low ≤ from → IsSpread low runs → (from < to → IsSpread (to + 1) runs) → IsSpread low (between from to ++ runs)
spread-between low from to runs le spread behind = elim (cases_lt from to) [
  | inl lt ↦ subst (λ (l : List Run). IsSpread low (l ++ runs)) (sym (between-some from to lt)) (le, omega arith, spread_wider (from + (to - from) + 1) (to + 1) runs (omega arith) (behind lt))
  | inr ge ↦ subst (λ (l : List Run). IsSpread low (l ++ runs)) (sym (between-none from to ge)) spread
]

pub spread-without : (low : ℕ) (gone : Run) (runs : List Run) → 0 < gone.blocks → IsSpread low runs → IsSpread low (without gone runs)
spread-without low gone [] some spread = tt
spread-without low gone (r ∷ runs) some spread =
    let rest : IsSpread (end_of r + 1) (without gone runs) = spread-without (end_of r + 1) gone runs some spread.2 in
    let above : ℕ = max r.at (end_of gone) in
    let right : (from : ℕ) → from ≤ above → from ≤ end_of r + 1 → IsSpread from (between above (end_of r) ++ without gone runs) =
    λ from le within. spread-between from above (end_of r) (without gone runs) le (spread_wider from (end_of r + 1) (without gone runs) within rest) (λ lt. rest) in
    spread-between low r.at (min (end_of r) gone.at) (between above (end_of r) ++ without gone runs) spread.0
    (right low (omega (arith, spread.0)) (omega (arith, spread.0)))
    (λ lt. right (min (end_of r) gone.at + 1) (omega arith) (omega arith))

pub spread-free_of : (blocks : ℕ) (used : List Run) → IsSpread 0 (free_of blocks used)
unfolding free_of
spread-free_of blocks [] = elim (cases_lt 0 blocks) [
  | inl lt ↦ subst (λ (l : List Run). IsSpread 0 l) (sym (between-some 0 blocks lt)) (omega arith, omega arith, tt)
  | inr ge ↦ subst (λ (l : List Run). IsSpread 0 l) (sym (between-none 0 blocks ge)) tt
]
spread-free_of blocks (r ∷ used) = spread-without 0 (with_header r) (free_of blocks used) (omega arith) (spread-free_of blocks used)

pub has_none_before : (r : Run) (k : ℕ) → k < r.at → has r k ≡ false
has_none_before r k lt = grind (arith, nat_tests)

pub has_none_behind : (r : Run) (k : ℕ) → end_of r ≤ k → has r k ≡ false
has_none_behind r k le = grind (arith, nat_tests)

pub has_between : (r : Run) (k : ℕ) → r.at ≤ k → k < end_of r → has r k ≡ true
has_between r k le lt = grind (arith, nat_tests)

pub has_parts : (r : Run) (k : ℕ) → has r k ≡ true → (r.at ≤ k) × (k < end_of r)
has_parts r k is =
    let parts = and_parts (leb r.at k) (ltb k (end_of r)) is in
    (leb-true r.at k parts.0, ltb-true k (end_of r) parts.1)

pub none_before : (low k : ℕ) (runs : List Run) → IsSpread low runs → k < low → covers runs k ≡ false
none_before low k [] spread lt = refl
none_before low k (r ∷ runs) spread lt =
    let here : has r k ≡ false = has_none_before r k (omega (arith, spread.0)) in
    let behind : covers runs k ≡ false = none_before (end_of r + 1) k runs spread.2 (omega (arith, spread.0)) in
    (λ i. here i || behind i)

-- a run of the one list begins where a run of the other one has a block, so it doesn't begin before it
not_before : (r s : Run) (xs ys : List Run) → 0 < r.blocks → IsSpread s.at (s ∷ ys) → ((k : ℕ) → covers (r ∷ xs) k ≡ covers (s ∷ ys) k) → s.at ≤ r.at
not_before r s xs ys some spread same = elim (cases_lt r.at s.at) [
  | inl lt ↦ absurd (false≢true (sym (none_before s.at r.at (s ∷ ys) spread lt) ∙ sym (same r.at) ∙ or_left (has r r.at) (covers xs r.at) (has_between r r.at (omega arith) (omega arith))))
  | inr ge ↦ ge
]

-- nor does it end before it
not_shorter : (r s : Run) (xs ys : List Run) → r.at ≡ s.at → 0 < r.blocks → IsSpread (end_of r + 1) xs → ((k : ℕ) → covers (r ∷ xs) k ≡ covers (s ∷ ys) k) → end_of s ≤ end_of r
not_shorter r s xs ys starts some spread same = elim (cases_lt (end_of r) (end_of s)) [
  | inl lt ↦
      let none : covers (r ∷ xs) (end_of r) ≡ false = λ i. has_none_behind r (end_of r) (omega arith) i || none_before (end_of r + 1) (end_of r) xs spread (omega arith) i in
      absurd (false≢true (sym none ∙ same (end_of r) ∙ or_left (has s (end_of r)) (covers ys (end_of r)) (has_between s (end_of r) (omega arith) (omega arith))))
  | inr ge ↦ ge
]

pub same_runs : (low : ℕ) (xs ys : List Run) → IsSpread low xs → IsSpread low ys → ((k : ℕ) → covers xs k ≡ covers ys k) → xs ≡ ys
same_runs low [] [] in_xs in_ys same = refl
same_runs low [] (s ∷ ys) in_xs in_ys same = absurd (false≢true (same s.at ∙ or_left (has s s.at) (covers ys s.at) (has_between s s.at (omega arith) (omega (arith, in_ys.1)))))
same_runs low (r ∷ xs) [] in_xs in_ys same = absurd (false≢true (sym (same r.at) ∙ or_left (has r r.at) (covers xs r.at) (has_between r r.at (omega arith) (omega (arith, in_xs.1)))))
same_runs low (r ∷ xs) (s ∷ ys) in_xs in_ys same =
    let back : (k : ℕ) → covers (s ∷ ys) k ≡ covers (r ∷ xs) k = λ k. sym (same k) in
    let below : s.at ≤ r.at = not_before r s xs ys in_xs.1 (omega arith, in_ys.1, in_ys.2) same in
    let above : r.at ≤ s.at = not_before s r ys xs in_ys.1 (omega arith, in_xs.1, in_xs.2) back in
    let starts : r.at ≡ s.at = omega arith in
    let short : end_of s ≤ end_of r = not_shorter r s xs ys starts in_xs.1 in_xs.2 same in
    let long : end_of r ≤ end_of s = not_shorter s r ys xs (sym starts) in_ys.1 in_ys.2 back in
    let sizes : r.blocks ≡ s.blocks = omega arith in
    let rest : (k : ℕ) → covers xs k ≡ covers ys k = λ k. elim (cases_lt k (end_of r + 1)) [
      | inl lt ↦ none_before (end_of r + 1) k xs in_xs.2 lt ∙ sym (none_before (end_of s + 1) k ys in_ys.2 (omega arith))
      | inr ge ↦
          let out : has r k ≡ false = has_none_behind r k (omega arith) in
          let out_too : has s k ≡ false = has_none_behind s k (omega arith) in
          (λ i. sym out i || covers xs k) ∙ same k ∙ (λ i. out_too i || covers ys k)
    ] in
    let tails : xs ≡ ys = same_runs (end_of r + 1) xs ys in_xs.2 (spread_wider (end_of r + 1) (end_of s + 1) ys (omega arith) in_ys.2) rest in
    λ i. record { at = starts i; blocks = sizes i } ∷ tails i

-- runs that have no block from one on lie in order before it
pub order_from_spread : (low high : ℕ) (runs : List Run) → low ≤ high → IsSpread low runs → ((k : ℕ) → high ≤ k → covers runs k ≡ false) → IsInOrder low high runs
order_from_spread low high [] le spread none = le
order_from_spread low high (r ∷ runs) le spread none =
    let ends : end_of r ≤ high = elim (cases_lt high (end_of r)) [
      | inl lt ↦ absurd (false≢true (sym (none (end_of r - 1) (omega arith)) ∙ or_left (has r (end_of r - 1)) (covers runs (end_of r - 1)) (has_between r (end_of r - 1) (omega (arith, spread.1)) (omega (arith, spread.1)))))
      | inr ge ↦ ge
    ] in
    (spread.0, order_from_spread (end_of r) high runs ends (spread_wider (end_of r) (end_of r + 1) runs (omega arith) spread.2) (λ k far. (or_parts (has r k) (covers runs k) (none k far)).1))

pub free_of_is_free : (blocks : ℕ) (used : List Run) → IsFree blocks used (free_of blocks used)
free_of_is_free blocks used = record { covered = covers-free_of blocks used; longest = spread-free_of blocks used }

none_past : (blocks k : ℕ) (t : Bool) → blocks ≤ k → (ltb k blocks && not t) ≡ false
none_past blocks k t le = grind (arith, nat_tests)

pub order_of_free : (blocks high : ℕ) (used free : List Run) → IsFree blocks used free → blocks ≤ high → IsInOrder 0 high free
order_of_free blocks high used free is le = order_from_spread 0 high free (omega arith) is.longest (λ k far. is.covered k ∙ none_past blocks k (takes used k) (omega arith))

pub one_list : (blocks : ℕ) (used one other : List Run) → IsFree blocks used one → IsFree blocks used other → one ≡ other
one_list blocks used one other is is_too = same_runs 0 one other is.longest is_too.longest (λ k. is.covered k ∙ sym (is_too.covered k))
