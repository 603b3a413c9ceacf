-- Extents that come in order, one behind another, and extents in another order.
use Rattle.std.proofs.Common.{◌≡◌, ◌≤◌, ◌<◌, ◌+◌, ◌-◌, ◌&&◌, ◌↔◌, inl, inr, ℕ, Bool, true, false, cond, leb, ltb, List, [], ◌∷◌, length, get_or, map, drop, suc, refl, sym, subst, ◌∙◌, ap, arith, All, sum_by, IsTrue}
use Rattle.std.specs.List.Sorted.{IsNonDecreasingBy, IsPermutation}
use Rattle.std.proofs.Math.ListN.{drop_of_length-le}
use Rattle.std.proofs.Math.Seq.{drop-cons}
use Rattle.std.proofs.lemmas.List.Sorted.{All-permutation, IsPermutation-sym, sum_by-IsPermutation}
use Rattle.std.proofs.lemmas.List.Sums.{sum_by-cons}
use Rattle.std.proofs.lemmas.List.Elements.{All-cons, All-tail, All-nil}
use Rattle.std.proofs.lemmas.Bool.{cases_lt, cases_Bool, or_parts, or_from, and_parts, and_from, and_left, leb-true, ltb-true, lt-ltb, le-leb, cond-true, cond-false, false≢true, false_from_ne_true}
use Rattle.mdv_extent.specs.declared.run.Run.{Run}
use Rattle.mdv_extent.specs.Runs.{end_of, has, takes, with_header, IsInOrder}
use Rattle.mdv_extent.specs.Extents.{IsApart, IsExtent, LieApart}
use Rattle.mdv_extent.proofs.Spreading.{has_between}
use Rattle.mdv_extent.proofs.Taking.{apart_in_order}

abbrev pub is_behind : ℕ → ℕ → Run → Bool
is_behind end blocks r = ltb end r.at && (ltb 0 r.blocks && leb (end_of r) blocks)

-- one behind another
abbrev pub stand : ℕ → ℕ → List Run → Bool
stand end blocks [] = true
stand end blocks (r ∷ runs) = is_behind end blocks r && stand (end_of r) blocks runs

pub behind_parts : (end blocks : ℕ) (r : Run) → is_behind end blocks r ≡ true → (end < r.at) × (1 ≤ r.blocks) × (end_of r ≤ blocks)
behind_parts end blocks r is =
    let one = and_parts (ltb end r.at) (ltb 0 r.blocks && leb (end_of r) blocks) is in
    let two = and_parts (ltb 0 r.blocks) (leb (end_of r) blocks) one.1 in
    (ltb-true end r.at one.0, ltb-true 0 r.blocks two.0, leb-true (end_of r) blocks two.1)

behind_from : (end blocks : ℕ) (r : Run) → end < r.at → 1 ≤ r.blocks → end_of r ≤ blocks → is_behind end blocks r ≡ true
behind_from end blocks r lt some le = and_from (ltb end r.at) (ltb 0 r.blocks && leb (end_of r) blocks) (lt-ltb end r.at lt) (and_from (ltb 0 r.blocks) (leb (end_of r) blocks) (lt-ltb 0 r.blocks some) (le-leb (end_of r) blocks le))

-- extents that stand so lie apart
stand_lie : (end blocks : ℕ) (runs : List Run) → stand end blocks runs ≡ true → All (IsExtent blocks) runs
stand_lie end blocks [] is = All-nil (IsExtent blocks)
stand_lie end blocks (r ∷ runs) is =
    let parts = and_parts (is_behind end blocks r) (stand (end_of r) blocks runs) is in
    let first = behind_parts end blocks r parts.0 in
    All-cons (IsExtent blocks) r runs (record { header = omega (arith, first.0); whole = first.1; within = first.2 }) (stand_lie (end_of r) blocks runs parts.1)

stand_order : (end blocks : ℕ) (runs : List Run) → end ≤ blocks → stand end blocks runs ≡ true → IsInOrder end blocks (map with_header runs)
stand_order end blocks [] le is = le
stand_order end blocks (r ∷ runs) le is =
    let parts = and_parts (is_behind end blocks r) (stand (end_of r) blocks runs) is in
    let first = behind_parts end blocks r parts.0 in
    (omega (arith, first.0), subst (λ (n : ℕ). IsInOrder n blocks (map with_header runs)) (omega (arith, first.0)) (stand_order (end_of r) blocks runs first.2 parts.1))

-- and such as lie apart and come in order stand so
next_behind : (blocks : ℕ) (r s : Run) (runs : List Run) → IsExtent blocks s → r.at ≤ s.at → has (with_header r) (s.at - 1) ≡ false → end_of r < s.at
next_behind blocks r s runs extent le free = elim (cases_lt (end_of r) s.at) [
  | inl lt ↦ lt
  | inr ge ↦ absurd (false≢true (sym free ∙ has_between (with_header r) (s.at - 1) (omega arith) (omega (arith, extent.header))))
]

all_next_behind : (blocks : ℕ) (r : Run) (runs : List Run) → 1 ≤ r.at → All (IsExtent blocks) runs → All (λ (s : Run). r.at ≤ s.at) runs → ((k : ℕ) → has (with_header r) k ≡ true → takes runs k ≡ false) → All (λ (s : Run). end_of r < s.at) runs
all_next_behind blocks r [] some lie order apart = All-nil (λ (s : Run). end_of r < s.at)
all_next_behind blocks r (s ∷ runs) some lie order apart =
    let extent : IsExtent blocks s = lie 0 s (omega arith) in
    let le : r.at ≤ s.at = order 0 s (omega arith) in
    let free : has (with_header r) (s.at - 1) ≡ false = false_from_ne_true (has (with_header r) (s.at - 1)) (λ both.
    false≢true (sym (or_parts (has (with_header s) (s.at - 1)) (takes runs (s.at - 1)) (apart (s.at - 1) both)).0 ∙ has_between (with_header s) (s.at - 1) (omega arith) (omega (arith, extent.whole)))) in
    All-cons (λ (t : Run). end_of r < t.at) s runs (next_behind blocks r s runs extent le free)
    (all_next_behind blocks r runs some (All-tail (IsExtent blocks) s runs lie) (All-tail (λ (t : Run). r.at ≤ t.at) s runs order) (λ k both. (or_parts (has (with_header s) k) (takes runs k) (apart k both)).1))

apart_stand : (end blocks : ℕ) (runs : List Run) → All (λ (s : Run). end < s.at) runs → IsNonDecreasingBy (λ (r : Run). r.at) runs → All (IsExtent blocks) runs → IsApart runs → stand end blocks runs ≡ true
apart_stand end blocks [] above order lie apart = refl
apart_stand end blocks (r ∷ runs) above order lie apart =
    let extent : IsExtent blocks r = lie 0 r (omega arith) in
    let rest : All (IsExtent blocks) runs = All-tail (IsExtent blocks) r runs lie in
    let later : All (λ (s : Run). r.at ≤ s.at) runs = λ j d lt. order 0 (suc j) d (omega arith) (omega arith) in
    and_from (is_behind end blocks r) (stand (end_of r) blocks runs) (behind_from end blocks r (above 0 r (omega arith)) extent.whole extent.within)
    (apart_stand (end_of r) blocks runs (all_next_behind blocks r runs extent.header rest later apart.0) (λ i j d le lt. order (suc i) (suc j) d (omega arith) (omega arith)) rest apart.1)

all_above : (blocks : ℕ) (runs : List Run) → All (IsExtent blocks) runs → All (λ (s : Run). 0 < s.at) runs
all_above blocks [] lie = All-nil (λ (s : Run). 0 < s.at)
all_above blocks (r ∷ runs) lie = All-cons (λ (s : Run). 0 < s.at) r runs (lie 0 r (omega arith)).header (all_above blocks runs (All-tail (IsExtent blocks) r runs lie))

pub stand_where_apart : (blocks : ℕ) (runs : List Run) → IsNonDecreasingBy (λ (r : Run). r.at) runs → IsTrue (stand 0 blocks runs) ↔ LieApart blocks runs
stand_where_apart blocks runs order = (
  λ is. record { lie = stand_lie 0 blocks runs is; apart = apart_in_order 0 blocks runs (stand_order 0 blocks runs (omega arith) is) },
  λ lie. apart_stand 0 blocks runs (all_above blocks runs lie.lie) order lie.lie lie.apart,
)

-- the first that doesn't stand so
pub stand_stops : (end blocks i : ℕ) (runs : List Run) (d : Run) → i < length runs → is_behind end blocks (get_or runs i d) ≡ false → stand end blocks (drop i runs) ≡ false
stand_stops end blocks i runs d lt stops = ap (stand end blocks) (drop-cons runs i d lt) ∙ and_left (is_behind end blocks (get_or runs i d)) (stand (end_of (get_or runs i d)) blocks (drop (suc i) runs)) stops

pub stand_ends : (end blocks i : ℕ) (runs : List Run) → length runs ≤ i → stand end blocks (drop i runs) ≡ true
stand_ends end blocks i runs le = ap (stand end blocks) (drop_of_length-le runs le)

pub stand_tells : (blocks : ℕ) (runs : List Run) (b : Bool) → IsNonDecreasingBy (λ (r : Run). r.at) runs → stand 0 blocks runs ≡ b → IsTrue b ↔ LieApart blocks runs
stand_tells blocks runs b order is = subst (λ (t : Bool). IsTrue t ↔ LieApart blocks runs) is (stand_where_apart blocks runs order)

-- how many extents have the block
taken_by : ℕ → Run → ℕ
taken_by k r = cond (has (with_header r) k) 1 0

count_on : ℕ → List Run → ℕ
count_on k runs = sum_by (taken_by k) runs

count-here : (k : ℕ) (r : Run) (runs : List Run) → has (with_header r) k ≡ true → count_on k (r ∷ runs) ≡ 1 + count_on k runs
unfolding count_on taken_by
count-here k r runs here = sum_by-cons (taken_by k) r runs ∙ ap (λ (n : ℕ). n + sum_by (taken_by k) runs) (cond-true (has (with_header r) k) 1 0 here)

count-away : (k : ℕ) (r : Run) (runs : List Run) → has (with_header r) k ≡ false → count_on k (r ∷ runs) ≡ count_on k runs
unfolding count_on taken_by
count-away k r runs away = sum_by-cons (taken_by k) r runs ∙ ap (λ (n : ℕ). n + sum_by (taken_by k) runs) (cond-false (has (with_header r) k) 1 0 away) ∙ omega arith

count-nil : (k : ℕ) → count_on k [] ≡ 0
unfolding count_on
count-nil k = refl

count-moved : (k : ℕ) (xs ys : List Run) → IsPermutation xs ys → count_on k ys ≡ count_on k xs
unfolding count_on
count-moved k xs ys moved = sum_by-IsPermutation (taken_by k) xs ys moved

none_counted : (k : ℕ) (runs : List Run) → takes runs k ≡ false → count_on k runs ≡ 0
none_counted k [] none = count-nil k
none_counted k (r ∷ runs) none = let parts = or_parts (has (with_header r) k) (takes runs k) none in count-away k r runs parts.0 ∙ none_counted k runs parts.1

none_taken : (k : ℕ) (runs : List Run) → count_on k runs ≡ 0 → takes runs k ≡ false
none_taken k [] none = refl
none_taken k (r ∷ runs) none = elim (cases_Bool (has (with_header r) k)) [
  | inl here ↦ absurd (omega (arith, none, count-here k r runs here))
  | inr away ↦ or_from (has (with_header r) k) (takes runs k) away (none_taken k runs (sym (count-away k r runs away) ∙ none))
]

one_counted : (k : ℕ) (runs : List Run) → IsApart runs → count_on k runs ≤ 1
one_counted k [] apart = omega (arith, count-nil k)
one_counted k (r ∷ runs) apart = elim (cases_Bool (has (with_header r) k)) [
  | inl here ↦ omega (arith, count-here k r runs here, none_counted k runs (apart.0 k here))
  | inr away ↦ omega (arith, count-away k r runs away, one_counted k runs apart.1)
]

apart_from_counts : (runs : List Run) → ((k : ℕ) → count_on k runs ≤ 1) → IsApart runs
apart_from_counts [] counts = tt
apart_from_counts (r ∷ runs) counts = (
  λ k here. none_taken k runs (omega (arith, counts k, count-here k r runs here)),
  apart_from_counts runs (λ k. elim (cases_Bool (has (with_header r) k)) [
    | inl here ↦ omega (arith, counts k, count-here k r runs here)
    | inr away ↦ omega (arith, counts k, count-away k r runs away)
  ]),
)

-- the order of extents changes nothing
pub apart_moved : (blocks : ℕ) (xs ys : List Run) → IsPermutation xs ys → LieApart blocks xs → LieApart blocks ys
apart_moved blocks xs ys moved lie = record {
  lie = All-permutation (IsExtent blocks) xs ys moved lie.lie;
  apart = apart_from_counts ys (λ k. omega (arith, count-moved k xs ys moved, one_counted k xs lie.apart));
}

pub apart_in_any_order : (blocks : ℕ) (b : Bool) (runs sorted : List Run) → IsPermutation runs sorted → IsTrue b ↔ LieApart blocks sorted → IsTrue b ↔ LieApart blocks runs
apart_in_any_order blocks b runs sorted moved is =
    (λ on. apart_moved blocks sorted runs (IsPermutation-sym runs sorted moved) (is.0 on), λ lie. is.1 (apart_moved blocks runs sorted moved lie))
