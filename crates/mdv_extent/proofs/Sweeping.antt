-- The free runs as they are found from one used run to the next.
use Rattle.std.proofs.Common.{◌≡◌, ◌≤◌, ◌<◌, ◌+◌, ◌-◌, ◌&&◌, ◌||◌, inl, inr, ℕ, Bool, true, false, not, leb, ltb, max, List, [], ◌∷◌, ◌++◌, length, drop, suc, refl, sym, subst, ◌∙◌, ap, arith, All}
use Rattle.std.specs.List.Sorted.{IsNonDecreasingBy, IsPermutation}
use Rattle.std.proofs.lemmas.List.Sorted.{All-permutation, IsPermutation-sym}
use Rattle.std.proofs.Math.ListN.{drop_of_length-le}
use Rattle.std.proofs.lemmas.List.Elements.{All-cons, All-tail}
use Rattle.std.proofs.lemmas.Bool.{cases_lt, cases_Bool, or_parts, or_from, false≢true}
use Rattle.std.proofs.lemmas.Bool.Decides.{nat_tests}
use Rattle.mdv_extent.specs.declared.run.Run.{Run}
use Rattle.mdv_extent.specs.Runs.{end_of, has, covers, takes, with_header, IsSpread}
use Rattle.mdv_extent.specs.Free.{IsUsed, IsFree, between, free_of}
use Rattle.mdv_extent.proofs.Covering.{covers-append, covers-between}
use Rattle.mdv_extent.proofs.Spreading.{spread-between, between-some, between-none, has_none_before, one_list, free_of_is_free}

-- the free blocks from one on, of a base whose used runs come in order
abbrev pub gaps_from : ℕ → ℕ → List Run → List Run
gaps_from next blocks [] = between next blocks
gaps_from next blocks (r ∷ used) = between next (r.at - 1) ++ gaps_from (max next (end_of r)) blocks used

-- each used run, and where each begins behind those before it
abbrev pub IsRow : ℕ → List Run → Type 0
IsRow blocks [] = Unit {0}
IsRow blocks (r ∷ used) = IsUsed blocks r × All (λ (s : Run). r.at ≤ s.at) used × IsRow blocks used

spread-gaps : (low next blocks : ℕ) (used : List Run) → low ≤ next → IsRow blocks used → IsSpread low (gaps_from next blocks used)
spread-gaps low next blocks [] le row = elim (cases_lt next blocks) [
  | inl lt ↦ subst (λ (l : List Run). IsSpread low l) (sym (between-some next blocks lt)) (le, omega arith, tt)
  | inr ge ↦ subst (λ (l : List Run). IsSpread low l) (sym (between-none next blocks ge)) tt
]
spread-gaps low next blocks (r ∷ used) le row =
    spread-between low next (r.at - 1) (gaps_from (max next (end_of r)) blocks used) le
    (spread-gaps low (max next (end_of r)) blocks used (omega arith) row.2)
    (λ lt. spread-gaps (r.at - 1 + 1) (max next (end_of r)) blocks used (omega (arith, row.0.header)) row.2)

none_taken_before : (low k : ℕ) (used : List Run) → k + 1 < low → All (λ (s : Run). low ≤ s.at) used → takes used k ≡ false
none_taken_before low k [] lt all = refl
none_taken_before low k (s ∷ used) lt all = or_from (has (with_header s) k) (takes used k) (has_none_before (with_header s) k (omega (arith, all 0 s (omega arith)))) (none_taken_before low k used lt (All-tail (λ (r : Run). low ≤ r.at) s used all))

step_before : (next at blocks top size k : ℕ) (t : Bool) → k < at - 1 → at + size ≤ top → t ≡ false → ((leb next k && ltb k (at - 1)) || (leb (max next (at + size)) k && (ltb k top && not t))) ≡ (leb next k && (ltb k top && not ((leb (at - 1) k && ltb k (at - 1 + (size + 1))) || t)))
step_before next at blocks top size k t lt within none = grind (arith, nat_tests)

step_behind : (next at top size k : ℕ) (t : Bool) → at - 1 ≤ k → 1 ≤ at → ((leb next k && ltb k (at - 1)) || (leb (max next (at + size)) k && (ltb k top && not t))) ≡ (leb next k && (ltb k top && not ((leb (at - 1) k && ltb k (at - 1 + (size + 1))) || t)))
step_behind next at top size k true le some = grind (arith, nat_tests)
step_behind next at top size k false le some = grind (arith, nat_tests)

covers-gaps : (next blocks : ℕ) (used : List Run) (k : ℕ) → IsRow blocks used → covers (gaps_from next blocks used) k ≡ (leb next k && (ltb k blocks && not (takes used k)))
covers-gaps next blocks [] k row = covers-between next blocks k ∙ grind (arith, nat_tests)
covers-gaps next blocks (r ∷ used) k row =
    covers-append (between next (r.at - 1)) (gaps_from (max next (end_of r)) blocks used) k
    ∙ (λ i. covers-between next (r.at - 1) k i || covers-gaps (max next (end_of r)) blocks used k row.2 i)
    ∙ elim (cases_lt k (r.at - 1)) [
      | inl lt ↦ step_before next r.at blocks blocks r.blocks k (takes used k) lt row.0.within (none_taken_before r.at k used (omega (arith, row.0.header)) row.1)
      | inr ge ↦ step_behind next r.at blocks r.blocks k (takes used k) ge row.0.header
    ]

pub gaps_are_free : (blocks : ℕ) (used : List Run) → IsRow blocks used → IsFree blocks used (gaps_from 0 blocks used)
gaps_are_free blocks used row = record {
  covered = λ k. covers-gaps 0 blocks used k row ∙ grind (arith, nat_tests);
  longest = spread-gaps 0 0 blocks used (omega arith) row;
}

-- behind the last used run: what is left of the base
pub last_gap : (next blocks i : ℕ) (used free swept : List Run) → free ++ gaps_from next blocks (drop i used) ≡ swept → length used ≤ i → free ++ between next blocks ≡ swept
last_gap next blocks i used free swept so_far end = ap (λ (l : List Run). free ++ gaps_from next blocks l) (sym (drop_of_length-le used end)) ∙ so_far

-- used runs that a sort put in order
pub row_from_sorted : (blocks : ℕ) (used : List Run) → All (IsUsed blocks) used → IsNonDecreasingBy (λ (r : Run). r.at) used → IsRow blocks used
row_from_sorted blocks [] all order = tt
row_from_sorted blocks (r ∷ used) all order = (all 0 r (omega arith), λ j d lt. order 0 (suc j) d (omega arith) (omega arith), row_from_sorted blocks used (All-tail (IsUsed blocks) r used all) (λ i j d le lt. order (suc i) (suc j) d (omega arith) (omega arith)))

-- runs in another order have the same blocks
none_of_all : (xs : List Run) (k : ℕ) → All (λ (r : Run). has (with_header r) k ≡ false) xs → takes xs k ≡ false
none_of_all [] k all = refl
none_of_all (r ∷ xs) k all = or_from (has (with_header r) k) (takes xs k) (all 0 r (omega arith)) (none_of_all xs k (All-tail (λ (s : Run). has (with_header s) k ≡ false) r xs all))

all_of_none : (xs : List Run) (k : ℕ) → takes xs k ≡ false → All (λ (r : Run). has (with_header r) k ≡ false) xs
all_of_none [] k none = λ j d lt. absurd (omega arith)
all_of_none (r ∷ xs) k none = let parts = or_parts (has (with_header r) k) (takes xs k) none in All-cons (λ (s : Run). has (with_header s) k ≡ false) r xs parts.0 (all_of_none xs k parts.1)

none_moved : (xs ys : List Run) (k : ℕ) → IsPermutation xs ys → takes xs k ≡ false → takes ys k ≡ false
none_moved xs ys k moved none = none_of_all ys k (All-permutation (λ (r : Run). has (with_header r) k ≡ false) xs ys moved (all_of_none xs k none))

takes-permutation : (xs ys : List Run) (k : ℕ) → IsPermutation xs ys → takes ys k ≡ takes xs k
takes-permutation xs ys k moved = elim (cases_Bool (takes xs k)) [
  | inl some ↦ elim (cases_Bool (takes ys k)) [
    | inl some_too ↦ some_too ∙ sym some
    | inr none ↦ absurd (false≢true (sym (none_moved ys xs k (IsPermutation-sym xs ys moved) none) ∙ some))
  ]
  | inr none ↦ none_moved xs ys k moved none ∙ sym none
]

pub free_in_any_order : (blocks : ℕ) (used sorted free : List Run) → IsPermutation used sorted → IsFree blocks sorted free → IsFree blocks used free
free_in_any_order blocks used sorted free moved is = record {
  covered = λ k. is.covered k ∙ ap (λ (b : Bool). ltb k blocks && not b) (takes-permutation used sorted k moved);
  longest = is.longest;
}

-- a list that was copied and put in order
pub copied_in_order : (used copied sorted slice : List Run) → copied ≡ used → IsPermutation copied sorted → slice ≡ sorted → IsPermutation used slice
copied_in_order used copied sorted slice copies moved is = subst (λ (l : List Run). IsPermutation l slice) copies (subst (λ (l : List Run). IsPermutation copied l) (sym is) moved)

-- what is free of the runs in order is what is left of the base
pub is_what_is_left : (blocks : ℕ) (used sorted free : List Run) → IsPermutation used sorted → IsFree blocks sorted free → free ≡ free_of blocks used
is_what_is_left blocks used sorted free moved is = one_list blocks used free (free_of blocks used) (free_in_any_order blocks used sorted free moved is) (free_of_is_free blocks used)
