-- Lists in ascending order of a key.
use Rattle.std.proofs.Common.{Bool, true, false, ◌≡◌, ◌<◌, ◌≤◌, ◌==◌, ℕ, zero, suc, refl, sym, ap, subst, List, [], ◌∷◌, length, get_or, cond, Some, None, Result, Ok, Err, IfOk, IfErr, inl, inr, arith}
use Rattle.std.specs.Prelude.{All, nat_lt}
use Rattle.std.specs.List.{find, insert, remove}
use Rattle.std.proofs.Math.ListN.{set}
use Rattle.std.proofs.lemmas.List.Elements.{All-filter}
use Rattle.std.proofs.lemmas.List.Kept.{AllPairs-filter}
use Rattle.std.specs.List.Sorted.{IsSearchInRange, IsBinarySearchResult, IsNonDecreasingBy}
use Rattle.std.specs.Ordering.{nat_cmp, ordering_index}
use Rattle.std.proofs.lemmas.Bool.{cases_lt}
use Rattle.std.proofs.lemmas.Bool.Decides.{nat_tests}
use Rattle.std.proofs.lemmas.Cmp.{ranked}
use Rattle.std.proofs.lemmas.List.Elements.{All-nil, All-cons, All-head, All-tail}
use Rattle.mdv_plan.specs.Sorted.{IsAscending, IsSorted, IsAt, IsGapFor, with_item, with_put, without, unmarked, changed}
use Rattle.mdv_plan.proofs.Pairs.{AllPairs-cons, AllPairs-first, AllPairs-rest}

-- the key at a place is at least the place
place_le : {T : Type 0} (key : T → ℕ) (xs : List T) → IsAscending key xs → (k : ℕ) (d : T) → k < length xs → k ≤ key (get_or xs k d)
place_le key xs rising zero d within = omega arith
place_le key xs rising (suc k) d within =
    let below : key (get_or xs k d) < key (get_or xs (suc k) d) = rising k (suc k) d (omega arith) within in
    omega (arith, place_le key xs rising k d (omega arith))

pub few : {T : Type 0} (key : T → ℕ) (limit : ℕ) (xs : List T) → IsSorted key limit xs → length xs ≤ limit
few key limit [] is = omega arith
few key limit (x ∷ xs) is =
    let last = length xs in
    omega (arith, place_le key (x ∷ xs) is.ascending last x (omega arith), is.keys last x (omega arith))

-- the comparisons with a key rise along the list, as a binary search asks
rises : {T : Type 0} (key : T → ℕ) (xs : List T) (k : ℕ) → IsAscending key xs → IsNonDecreasingBy (λ x. ordering_index (nat_cmp (key x) k)) xs
rises key xs k rising i j d le within =
    let up : key (get_or xs i d) ≤ key (get_or xs j d) = elim (cases_lt i j) [
      | inl before ↦ let below : key (get_or xs i d) < key (get_or xs j d) = rising i j d before within in omega arith
      | inr at ↦ let here : i ≡ j = omega arith in omega (arith, ap (λ (n : ℕ). key (get_or xs n d)) here)
    ] in
    grind (arith, nat_tests)

pub searched : {T : Type 0} (key : T → ℕ) (xs : List T) (k : ℕ) (r : Result ℕ ℕ) → IsAscending key xs → IsSearchInRange r (length xs) → IsBinarySearchResult (λ x. nat_cmp (key x) k) xs r → IfOk r (IsAt key xs k) × IfErr r (IsGapFor key xs k)
searched key xs k (Ok at) rising within equal = (record { within = within; is = λ d. ranked _ k _ (sym (equal d)) }, tt)
searched key xs k (Err at) rising within parted =
    let parts = parted (rises key xs k rising) in (
      tt,
      record {
        within = within;
        smaller = λ i d low high. ranked _ k _ (sym (parts.0 i d low high));
        greater = λ i d low high. ranked _ k _ (sym (parts.1 i d low high));
      },
    )

-- what stands at the place of a key is the first one with it
pub find_at : {T : Type 0} (key : T → ℕ) (xs : List T) (k place : ℕ) (x : T) → IsAscending key xs → IsAt key xs k place → x ≡ get_or xs place x → find (λ y. key y == k) xs ≡ Some x
find_at key [] k place x rising at is = absurd (omega (arith, at.within))
find_at key (y ∷ ys) k zero x rising at is =
    let same : key y ≡ k = at.is y in
    let here : x ≡ y = is in
    grind (arith, nat_tests)
find_at key (y ∷ ys) k (suc place) x rising at is =
    let below : key y < key (get_or ys place y) = rising 0 (suc place) y (omega arith) at.within in
    let same : key (get_or ys place y) ≡ k = at.is y in
    let rest = find_at key ys k place x (λ i j d lt within. rising (suc i) (suc j) d (omega arith) (omega arith)) (record { within = omega (arith, at.within); is = λ d. at.is d }) is in
    grind (arith, nat_tests)

-- where there is a gap for a key, nothing has it
pub none_at : {T : Type 0} (key : T → ℕ) (xs : List T) (k place : ℕ) → IsGapFor key xs k place → find (λ y. key y == k) xs ≡ None
none_at key [] k place gap = refl
none_at key (y ∷ ys) k zero gap =
    let above : k < key y = gap.greater 0 y (omega arith) (omega arith) in
    let rest = none_at key ys k zero (record { within = omega arith; smaller = λ i d low high. absurd (omega arith); greater = λ i d low high. gap.greater (suc i) d (omega arith) (omega arith) }) in
    grind (arith, nat_tests)
none_at key (y ∷ ys) k (suc place) gap =
    let below : key y < k = gap.smaller 0 y (omega arith) (omega arith) in
    let rest = none_at key ys k place (record { within = omega (arith, gap.within); smaller = λ i d low high. gap.smaller (suc i) d (omega arith) (omega arith); greater = λ i d low high. gap.greater (suc i) d (omega arith) (omega arith) }) in
    grind (arith, nat_tests)

gap_tail : {T : Type 0} (key : T → ℕ) (y : T) (ys : List T) (k place : ℕ) → IsGapFor key (y ∷ ys) k (suc place) → IsGapFor key ys k place
gap_tail key y ys k place gap = record {
  within = omega (arith, gap.within);
  smaller = λ i d low high. gap.smaller (suc i) d (omega arith) (omega arith);
  greater = λ i d low high. gap.greater (suc i) d (omega arith) (omega arith);
}

-- nothing of the list has a key that isn't found
pub keys_differ : {T : Type 0} (key : T → ℕ) (xs : List T) (k : ℕ) → find (λ y. key y == k) xs ≡ None → All (λ y. key y ≡ k → ⊥) xs
keys_differ key [] k none i d within = absurd (omega arith)
keys_differ key (y ∷ ys) k none zero d within = λ same. grind (arith, nat_tests)
keys_differ key (y ∷ ys) k none (suc i) d within =
    let rest : find (λ z. key z == k) ys ≡ None = grind (arith, nat_tests) in
    keys_differ key ys k rest i d (omega arith)

-- what stands at a place has a key that is found
pub never_at : {T : Type 0} (key : T → ℕ) (xs : List T) (k place : ℕ) (d : T) → IsAt key xs k place → find (λ y. key y == k) xs ≡ None → ⊥
never_at key xs k place d at none = keys_differ key xs k none place d at.within (at.is d)

pub with_item-insert : {T : Type 0} (key : T → ℕ) (x : T) (xs : List T) (place : ℕ) → IsGapFor key xs (key x) place → insert xs place x ≡ with_item key x xs
with_item-insert key x [] zero gap = refl
with_item-insert key x [] (suc place) gap = refl
with_item-insert key x (y ∷ ys) zero gap = let below : key x < key y = gap.greater 0 x (omega arith) (omega arith) in grind (arith, nat_tests)
with_item-insert key x (y ∷ ys) (suc place) gap =
    let above : key y < key x = gap.smaller 0 x (omega arith) (omega arith) in
    let rest = with_item-insert key x ys place (gap_tail key y ys (key x) place gap) in
    grind (arith, nat_tests)

All-with : {T : Type 0} (P : T → Type 0) (key : T → ℕ) (x : T) (xs : List T) → P x → All P xs → All P (with_item key x xs)
All-with P key x [] one all = All-cons P x [] one (All-nil P)
All-with P key x (y ∷ ys) one all =
    let placed = All-cons P y (with_item key x ys) (All-head P y ys all) (All-with P key x ys one (All-tail P y ys all)) in
    let first = All-cons P x (y ∷ ys) one all in
    elim (nat_lt (key x) (key y)) as (λ b. All P (cond b (x ∷ y ∷ ys) (y ∷ with_item key x ys))) [ true ↦ first | false ↦ placed ]

with_ascending : {T : Type 0} (key : T → ℕ) (x : T) (xs : List T) → IsAscending key xs → All (λ y. key y ≡ key x → ⊥) xs → IsAscending key (with_item key x xs)
with_ascending key x [] rising apart = AllPairs-cons (λ a b. key a < key b) x [] (All-nil _) (λ i j d below within. absurd (omega arith))
with_ascending key x (y ∷ ys) rising apart = elim (cases_lt (key x) (key y)) [
  | inl below ↦
      let over : All (λ b. key x < key b) ys = λ k d within. omega (arith, AllPairs-first (λ a b. key a < key b) y ys rising k d within) in
      let first : IsAscending key (x ∷ y ∷ ys) = AllPairs-cons (λ a b. key a < key b) x (y ∷ ys) (All-cons (λ b. key x < key b) y ys below over) rising in
      let is : with_item key x (y ∷ ys) ≡ x ∷ y ∷ ys = grind (arith, nat_tests) in
      subst (IsAscending key) (sym is) first
  | inr at_least ↦
      let other : key y ≡ key x → ⊥ = apart 0 y (omega arith) in
      let above : key y < key x = elim (cases_lt (key y) (key x)) [ inl lt ↦ lt | inr ge ↦ absurd (other (omega arith)) ] in
      let over = All-with (λ b. key y < key b) key x ys above (AllPairs-first (λ a b. key a < key b) y ys rising) in
      let rest = with_ascending key x ys (AllPairs-rest (λ a b. key a < key b) y ys rising) (All-tail (λ b. key b ≡ key x → ⊥) y ys apart) in
      let placed = AllPairs-cons (λ a b. key a < key b) y (with_item key x ys) over rest in
      let is : with_item key x (y ∷ ys) ≡ y ∷ with_item key x ys = grind (arith, nat_tests) in
      subst (IsAscending key) (sym is) placed
]

-- a list with one more value is sorted where no other has its key
pub with_sorted : {T : Type 0} (key : T → ℕ) (limit : ℕ) (x : T) (xs : List T) → IsSorted key limit xs → key x < limit → find (λ y. key y == key x) xs ≡ None → IsSorted key limit (with_item key x xs)
with_sorted key limit x xs is fits none = record {
  ascending = with_ascending key x xs is.ascending (keys_differ key xs (key x) none);
  keys = All-with (λ y. key y < limit) key x xs fits is.keys;
}

-- where nothing has the key, nothing goes
without_none : {T : Type 0} (key : T → ℕ) (k : ℕ) (xs : List T) → All (λ y. key y ≡ k → ⊥) xs → without key k xs ≡ xs
without_none key k [] apart = refl
without_none key k (y ∷ ys) apart =
    let other : key y ≡ k → ⊥ = apart 0 y (omega arith) in
    let rest = without_none key k ys (λ i d within. apart (suc i) d (omega arith)) in
    elim (cases_lt (key y) k) [
      | inl below ↦ grind (arith, nat_tests)
      | inr at_least ↦ let above : k < key y = elim (cases_lt k (key y)) [ inl lt ↦ lt | inr ge ↦ absurd (other (omega arith)) ] in grind (arith, nat_tests)
    ]

tail_rises : {T : Type 0} (key : T → ℕ) (y : T) (ys : List T) → IsAscending key (y ∷ ys) → IsAscending key ys
tail_rises key y ys rising = AllPairs-rest (λ a b. key a < key b) y ys rising

at_tail : {T : Type 0} (key : T → ℕ) (y : T) (ys : List T) (k place : ℕ) → IsAt key (y ∷ ys) k (suc place) → IsAt key ys k place
at_tail key y ys k place at = record { within = omega (arith, at.within); is = λ d. at.is d }

-- behind the first of a key nothing has it
others_differ : {T : Type 0} (key : T → ℕ) (y : T) (ys : List T) → IsAscending key (y ∷ ys) → All (λ z. key z ≡ key y → ⊥) ys
others_differ key y ys rising i d within same = omega (arith, AllPairs-first (λ a b. key a < key b) y ys rising i d within)

-- what stands in front of a place has another key
first_differs : {T : Type 0} (key : T → ℕ) (y : T) (ys : List T) (k place : ℕ) → IsAscending key (y ∷ ys) → IsAt key (y ∷ ys) k (suc place) → key y < k
first_differs key y ys k place rising at =
    let below : key y < key (get_or ys place y) = rising 0 (suc place) y (omega arith) at.within in
    let same : key (get_or ys place y) ≡ k = at.is y in
    omega arith

pub remove_at : {T : Type 0} (key : T → ℕ) (xs : List T) (k place : ℕ) → IsAscending key xs → IsAt key xs k place → remove xs place ≡ without key k xs
remove_at key [] k place rising at = absurd (omega (arith, at.within))
remove_at key (y ∷ ys) k zero rising at =
    let same : key y ≡ k = at.is y in
    let rest = without_none key k ys (λ i d within is. others_differ key y ys rising i d within (omega arith)) in
    grind (arith, nat_tests)
remove_at key (y ∷ ys) k (suc place) rising at =
    let below = first_differs key y ys k place rising at in
    let rest = remove_at key ys k place (tail_rises key y ys rising) (at_tail key y ys k place at) in
    grind (arith, nat_tests)

pub without_at : {T : Type 0} (key : T → ℕ) (xs : List T) (k place : ℕ) → IsGapFor key xs k place → xs ≡ without key k xs
without_at key xs k place gap = sym (without_none key k xs (gap_differs key xs k place gap))
  where
    gap_differs : {T : Type 0} (key : T → ℕ) (xs : List T) (k place : ℕ) → IsGapFor key xs k place → All (λ y. key y ≡ k → ⊥) xs
    gap_differs key xs k place gap i d within same = elim (cases_lt i place) [
      | inl before ↦ omega (arith, gap.smaller i d (omega arith) before)
      | inr behind ↦ omega (arith, gap.greater i d behind within)
    ]

pub without_sorted : {T : Type 0} (key : T → ℕ) (limit k : ℕ) (xs : List T) → IsSorted key limit xs → IsSorted key limit (without key k xs)
without_sorted key limit k xs is = record {
  ascending = AllPairs-filter (λ a b. key a < key b) _ xs is.ascending;
  keys = All-filter _ (λ x. key x < limit) xs is.keys;
}

pub unmarked_sorted : {T : Type 0} (key : T → ℕ) (limit : ℕ) (marks : List Bool) (xs : List T) → IsSorted key limit xs → IsSorted key limit (unmarked key marks xs)
unmarked_sorted key limit marks xs is = record {
  ascending = AllPairs-filter (λ a b. key a < key b) _ xs is.ascending;
  keys = All-filter _ (λ x. key x < limit) xs is.keys;
}

changed_none : {T : Type 0} (key : T → ℕ) (x : T) (xs : List T) → All (λ y. key y ≡ key x → ⊥) xs → changed key x xs ≡ xs
changed_none key x [] apart = refl
changed_none key x (y ∷ ys) apart =
    let other : key y ≡ key x → ⊥ = apart 0 y (omega arith) in
    let rest = changed_none key x ys (λ i d within. apart (suc i) d (omega arith)) in
    elim (cases_lt (key y) (key x)) [
      | inl below ↦ grind (arith, nat_tests)
      | inr at_least ↦ let above : key x < key y = elim (cases_lt (key x) (key y)) [ inl lt ↦ lt | inr ge ↦ absurd (other (omega arith)) ] in grind (arith, nat_tests)
    ]

pub set_at : {T : Type 0} (key : T → ℕ) (x : T) (xs : List T) (place : ℕ) → IsAscending key xs → IsAt key xs (key x) place → set xs place x ≡ changed key x xs
set_at key x [] place rising at = absurd (omega (arith, at.within))
set_at key x (y ∷ ys) zero rising at =
    let same : key y ≡ key x = at.is y in
    let rest = changed_none key x ys (λ i d within is. others_differ key y ys rising i d within (omega arith)) in
    grind (arith, nat_tests)
set_at key x (y ∷ ys) (suc place) rising at =
    let below = first_differs key y ys (key x) place rising at in
    let rest = set_at key x ys place (tail_rises key y ys rising) (at_tail key y ys (key x) place at) in
    grind (arith, nat_tests)

pub changed_at : {T : Type 0} (key : T → ℕ) (x : T) (xs : List T) (place : ℕ) → IsGapFor key xs (key x) place → xs ≡ changed key x xs
changed_at key x xs place gap = sym (changed_none key x xs (λ i d within same. elim (cases_lt i place) [
  | inl before ↦ omega (arith, gap.smaller i d (omega arith) before)
  | inr behind ↦ omega (arith, gap.greater i d behind within)
]))

pub put_at : {T : Type 0} (key : T → ℕ) (x : T) (xs : List T) (place : ℕ) → IsAscending key xs → IsAt key xs (key x) place → set xs place x ≡ with_put key x xs
put_at key x [] place rising at = absurd (omega (arith, at.within))
put_at key x (y ∷ ys) zero rising at = let same : key y ≡ key x = at.is y in grind (arith, nat_tests)
put_at key x (y ∷ ys) (suc place) rising at =
    let below = first_differs key y ys (key x) place rising at in
    let rest = put_at key x ys place (tail_rises key y ys rising) (at_tail key y ys (key x) place at) in
    grind (arith, nat_tests)

pub with_put-insert : {T : Type 0} (key : T → ℕ) (x : T) (xs : List T) (place : ℕ) → IsGapFor key xs (key x) place → insert xs place x ≡ with_put key x xs
with_put-insert key x [] zero gap = refl
with_put-insert key x [] (suc place) gap = refl
with_put-insert key x (y ∷ ys) zero gap = let below : key x < key y = gap.greater 0 x (omega arith) (omega arith) in grind (arith, nat_tests)
with_put-insert key x (y ∷ ys) (suc place) gap =
    let above : key y < key x = gap.smaller 0 x (omega arith) (omega arith) in
    let rest = with_put-insert key x ys place (gap_tail key y ys (key x) place gap) in
    grind (arith, nat_tests)

-- what was added goes again
pub without-with_item : {T : Type 0} (key : T → ℕ) (x : T) (xs : List T) → find (λ y. key y == key x) xs ≡ None → without key (key x) (with_item key x xs) ≡ xs
without-with_item key x [] none = grind (arith, nat_tests)
without-with_item key x (y ∷ ys) none =
    let other : key y ≡ key x → ⊥ = keys_differ key (y ∷ ys) (key x) none 0 y (omega arith) in
    let behind : find (λ z. key z == key x) ys ≡ None = grind (arith, nat_tests) in
    let rest = without-with_item key x ys behind in
    let all = without_none key (key x) ys (keys_differ key ys (key x) behind) in
    elim (cases_lt (key y) (key x)) [
      | inl below ↦ grind (arith, nat_tests)
      | inr at_least ↦ let above : key x < key y = elim (cases_lt (key x) (key y)) [ inl lt ↦ lt | inr ge ↦ absurd (other (omega arith)) ] in grind (arith, nat_tests)
    ]
