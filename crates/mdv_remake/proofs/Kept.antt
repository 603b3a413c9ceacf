-- Lists of which some values are kept.
use Rattle.std.proofs.Common.{◌≡◌, ◌≢◌, ◌<◌, ◌==◌, ◌||◌, ℕ, Bool, true, false, cond, eqb, ltb, None, Some, refl, sym, ◌∙◌, ap, subst, List, [], ◌∷◌, get_or, inl, inr, arith}
use Rattle.std.specs.List.{All, filter, find, flat_map, list_any}
use Rattle.std.proofs.lemmas.Bool.{cases_Bool, cases_order, or_parts, or_from, cond-true, cond-false, eq-eqb, ne_eqb, lt-ltb, le-ltb, false≢true}
use Rattle.std.proofs.lemmas.List.Elements.{All-cons, All-filter, All-head, All-tail}
use Rattle.std.proofs.lemmas.List.Folds.{list_any-append}
use Rattle.mdv_plan.specs.Sorted.{IsAscending, with_item, with_put}
use Rattle.mdv_plan.proofs.Pairs.{AllPairs-first, AllPairs-rest}

pub filter-kept : {X : Type 0} (v : X → Bool) (x : X) (xs : List X) → v x ≡ true → filter v (x ∷ xs) ≡ x ∷ filter v xs
filter-kept v x xs is = cond-true (v x) (x ∷ filter v xs) (filter v xs) is

pub filter-gone : {X : Type 0} (v : X → Bool) (x : X) (xs : List X) → v x ≡ false → filter v (x ∷ xs) ≡ filter v xs
filter-gone v x xs is = cond-false (v x) (x ∷ filter v xs) (filter v xs) is

pub find-first : {X : Type 0} (p : X → Bool) (x : X) (xs : List X) → p x ≡ true → find p (x ∷ xs) ≡ Some x
find-first p x xs is = cond-true (p x) (Some x) (find p xs) is

pub find-behind : {X : Type 0} (p : X → Bool) (x : X) (xs : List X) → p x ≡ false → find p (x ∷ xs) ≡ find p xs
find-behind p x xs is = cond-false (p x) (Some x) (find p xs) is

-- what holds of none, nor does what is stronger
pub any_none : {X : Type 0} (f g : X → Bool) → ((x : X) → f x ≡ false → g x ≡ false) → (xs : List X) → list_any f xs ≡ false → list_any g xs ≡ false
any_none f g stronger [] none = refl
any_none f g stronger (x ∷ xs) none =
    let parts = or_parts (f x) (list_any f xs) none in
    or_from (g x) (list_any g xs) (stronger x parts.0) (any_none f g stronger xs parts.1)

-- tests that agree on each value of a list
pub any_same : {X : Type 0} (f g : X → Bool) (xs : List X) → All (λ x. f x ≡ g x) xs → list_any f xs ≡ list_any g xs
any_same f g [] same = refl
any_same f g (x ∷ xs) same = λ i. All-head (λ y. f y ≡ g y) x xs same i || any_same f g xs (All-tail (λ y. f y ≡ g y) x xs same) i

none_behind : {X : Type 0} (f v : X → Bool) (x : X) (xs : List X) → list_any f (filter v (x ∷ xs)) ≡ false → list_any f (filter v xs) ≡ false
none_behind f v x xs none = elim (cases_Bool (v x)) [
  | inl kept ↦ (or_parts (f x) (list_any f (filter v xs)) (sym (ap (list_any f) (filter-kept v x xs kept)) ∙ none)).1
  | inr gone ↦ sym (ap (list_any f) (filter-gone v x xs gone)) ∙ none
]

none_first : {X : Type 0} (f v : X → Bool) (x : X) (xs : List X) → v x ≡ true → list_any f (filter v (x ∷ xs)) ≡ false → f x ≡ false
none_first f v x xs kept none = (or_parts (f x) (list_any f (filter v xs)) (sym (ap (list_any f) (filter-kept v x xs kept)) ∙ none)).0

-- nor does it hold of any where fewer are kept
pub none_kept : {X : Type 0} (f v w : X → Bool) → ((x : X) → v x ≡ true → w x ≡ true) → (xs : List X) → list_any f (filter w xs) ≡ false → list_any f (filter v xs) ≡ false
none_kept f v w fewer [] none = refl
none_kept f v w fewer (x ∷ xs) none = elim (cases_Bool (v x)) [
  | inl kept ↦ ap (list_any f) (filter-kept v x xs kept)
      ∙ or_from (f x) (list_any f (filter v xs)) (none_first f w x xs (fewer x kept) none) (none_kept f v w fewer xs (none_behind f w x xs none))
  | inr gone ↦ ap (list_any f) (filter-gone v x xs gone) ∙ none_kept f v w fewer xs (none_behind f w x xs none)
]

pub any-flat_map : {X Y : Type 0} (f : Y → Bool) (h : X → List Y) (xs : List X) → list_any f (flat_map h xs) ≡ list_any (λ x. list_any f (h x)) xs
any-flat_map f h [] = refl
any-flat_map f h (x ∷ xs) = list_any-append f (h x) (flat_map h xs) ∙ ap (λ (b : Bool). list_any f (h x) || b) (any-flat_map f h xs)

pub none_flat : {X Y : Type 0} (f : Y → Bool) (h : X → List Y) (v w : X → Bool) → ((x : X) → v x ≡ true → w x ≡ true) → (xs : List X) → list_any f (flat_map h (filter w xs)) ≡ false → list_any f (flat_map h (filter v xs)) ≡ false
none_flat f h v w fewer xs none =
    any-flat_map f h (filter v xs) ∙ none_kept (λ x. list_any f (h x)) v w fewer xs (sym (any-flat_map f h (filter w xs)) ∙ none)

-- what is looked for is kept
pub find_kept : {X : Type 0} (p v : X → Bool) → ((x : X) → p x ≡ true → v x ≡ true) → (xs : List X) → find p (filter v xs) ≡ find p xs
find_kept p v keeps [] = refl
find_kept p v keeps (x ∷ xs) = elim (cases_Bool (v x)) [
  | inl kept ↦ ap (find p) (filter-kept v x xs kept) ∙ ap (cond (p x) (Some x)) (find_kept p v keeps xs)
  | inr gone ↦ elim (cases_Bool (p x)) [
    | inl here ↦ absurd (false≢true (sym gone ∙ keeps x here))
    | inr away ↦ ap (find p) (filter-gone v x xs gone) ∙ find_kept p v keeps xs ∙ sym (find-behind p x xs away)
  ]
]

-- or none of it is
pub find_gone : {X : Type 0} (p v : X → Bool) → ((x : X) → p x ≡ true → v x ≡ false) → (xs : List X) → find p (filter v xs) ≡ None
find_gone p v leaves [] = refl
find_gone p v leaves (x ∷ xs) = elim (cases_Bool (v x)) [
  | inl kept ↦ elim (cases_Bool (p x)) [
    | inl here ↦ absurd (false≢true (sym (leaves x here) ∙ kept))
    | inr away ↦ ap (find p) (filter-kept v x xs kept) ∙ find-behind p x (filter v xs) away ∙ find_gone p v leaves xs
  ]
  | inr gone ↦ ap (find p) (filter-gone v x xs gone) ∙ find_gone p v leaves xs
]

pub filter_same : {X : Type 0} (v w : X → Bool) (xs : List X) → All (λ x. v x ≡ w x) xs → filter v xs ≡ filter w xs
filter_same v w [] same = refl
filter_same {X = X} v w (x ∷ xs) same =
    let rest = filter_same v w xs (All-tail (λ y. v y ≡ w y) x xs same) in
    λ i. cond (All-head (λ y. v y ≡ w y) x xs same i) (x ∷ rest i) (rest i)

pub filter_all : {X : Type 0} (v : X → Bool) (xs : List X) → All (λ x. v x ≡ true) xs → filter v xs ≡ xs
filter_all v [] all = refl
filter_all {X = X} v (x ∷ xs) all = filter-kept v x xs (All-head (λ y. v y ≡ true) x xs all) ∙ ap (λ (l : List X). x ∷ l) (filter_all v xs (All-tail (λ y. v y ≡ true) x xs all))

pub filter_none : {X : Type 0} (v : X → Bool) (xs : List X) → All (λ x. v x ≡ false) xs → filter v xs ≡ []
filter_none v [] none = refl
filter_none v (x ∷ xs) none = filter-gone v x xs (All-head (λ y. v y ≡ false) x xs none) ∙ filter_none v xs (All-tail (λ y. v y ≡ false) x xs none)

-- Below: lists that ascend by a key.

pub above : {X : Type 0} (key : X → ℕ) (x : X) (xs : List X) → IsAscending key (x ∷ xs) → All (λ y. key x < key y) xs
above key x xs rising = AllPairs-first (λ a b. key a < key b) x xs rising

pub rest_rises : {X : Type 0} (key : X → ℕ) (x : X) (xs : List X) → IsAscending key (x ∷ xs) → IsAscending key xs
rest_rises key x xs rising = AllPairs-rest (λ a b. key a < key b) x xs rising

-- a smaller key isn't found
none_above : {X : Type 0} (key : X → ℕ) (k : ℕ) (xs : List X) → All (λ y. k < key y) xs → find (λ y. key y == k) xs ≡ None
none_above key k [] all = refl
none_above key k (x ∷ xs) all =
    let over : k < key x = All-head (λ y. k < key y) x xs all in
    find-behind (λ y. key y == k) x xs (ne_eqb (key x) k (λ is. omega arith)) ∙ none_above key k xs (All-tail (λ y. k < key y) x xs all)

-- a value in front of greater ones
with_least : {X : Type 0} (key : X → ℕ) (w : X) (xs : List X) → All (λ y. key w < key y) xs → with_item key w xs ≡ w ∷ xs
with_least key w [] all = refl
with_least key w (x ∷ xs) all = cond-true (ltb (key w) (key x)) (w ∷ x ∷ xs) (x ∷ with_item key w xs) (lt-ltb (key w) (key x) (All-head (λ y. key w < key y) x xs all))

module _ {X : Type 0} (key : X → ℕ) (was now : ℕ → Bool) (w : X) (unmade : was (key w) ≡ false) (made : now (key w) ≡ true) (others : (n : ℕ) → n ≢ key w → now n ≡ was n) where
  at_it : (x : X) (xs : List X) → IsAscending key (x ∷ xs) → x ≡ w → with_item key w (filter (λ y. was (key y)) (x ∷ xs)) ≡ filter (λ y. now (key y)) (x ∷ xs)
  at_it x xs rising is =
      let over : All (λ y. key w < key y) xs = subst (λ (z : X). All (λ y. key z < key y) xs) is (above key x xs rising) in
      let left : filter (λ y. was (key y)) (x ∷ xs) ≡ filter (λ y. was (key y)) xs = filter-gone (λ y. was (key y)) x xs (ap (λ (z : X). was (key z)) is ∙ unmade) in
      let same : filter (λ y. now (key y)) xs ≡ filter (λ y. was (key y)) xs =
      filter_same (λ y. now (key y)) (λ y. was (key y)) xs (λ i d lt. others (key (get_or xs i d)) (λ at. omega (arith, over i d lt))) in
      ap (with_item key w) left ∙ with_least key w (filter (λ y. was (key y)) xs) (All-filter (λ y. was (key y)) (λ y. key w < key y) xs over)
      ∙ sym (filter-kept (λ y. now (key y)) x xs (ap (λ (z : X). now (key z)) is ∙ made) ∙ (λ i. is i ∷ same i))

  -- in front of a value that isn't it
  in_front : (x : X) (xs : List X) → key x < key w → with_item key w (filter (λ y. was (key y)) xs) ≡ filter (λ y. now (key y)) xs → with_item key w (filter (λ y. was (key y)) (x ∷ xs)) ≡ filter (λ y. now (key y)) (x ∷ xs)
  in_front x xs less rest =
      let same : now (key x) ≡ was (key x) = others (key x) (λ at. omega arith) in
      elim (cases_Bool (was (key x))) [
        | inl kept ↦ ap (with_item key w) (filter-kept (λ y. was (key y)) x xs kept)
            ∙ cond-false (ltb (key w) (key x)) (w ∷ x ∷ filter (λ y. was (key y)) xs) (x ∷ with_item key w (filter (λ y. was (key y)) xs)) (le-ltb (key w) (key x) (omega arith))
            ∙ ap (λ (l : List X). x ∷ l) rest ∙ sym (filter-kept (λ y. now (key y)) x xs (same ∙ kept))
        | inr gone ↦ ap (with_item key w) (filter-gone (λ y. was (key y)) x xs gone) ∙ rest ∙ sym (filter-gone (λ y. now (key y)) x xs (same ∙ gone))
      ]

  -- one more of the list is kept
  pub one_more : (xs : List X) → IsAscending key xs → find (λ y. key y == key w) xs ≡ Some w → with_item key w (filter (λ y. was (key y)) xs) ≡ filter (λ y. now (key y)) xs
  one_more [] rising found = cc
  one_more (x ∷ xs) rising found = elim (cases_order (key x) (key w)) [
    | inl same ↦
        let first : Some x ≡ Some w = sym (find-first (λ y. key y == key w) x xs (eq-eqb (key x) (key w) same)) ∙ found in
        let is : x ≡ w = cc in
        at_it x xs rising is
    | inr other ↦ elim other [
      | inl less ↦
          let behind : find (λ y. key y == key w) xs ≡ Some w = sym (find-behind (λ y. key y == key w) x xs (ne_eqb (key x) (key w) (λ is. omega arith))) ∙ found in
          in_front x xs less (one_more xs (rest_rises key x xs rising) behind)
      | inr more ↦
          let over : All (λ y. key w < key y) (x ∷ xs) = All-cons (λ y. key w < key y) x xs more (λ i d lt. omega (arith, above key x xs rising i d lt)) in
          let none = none_above key (key w) (x ∷ xs) over in
          let never : Some w ≡ None = sym found ∙ none in
          cc
    ]
  ]

-- where no value has the key, the value is put in as one more
pub put_fresh : {X : Type 0} (key : X → ℕ) (w : X) (xs : List X) → find (λ y. key y == key w) xs ≡ None → with_put key w xs ≡ with_item key w xs
put_fresh key w [] none = refl
put_fresh {X = X} key w (x ∷ xs) none = elim (cases_Bool (eqb (key x) (key w))) [
  | inl here ↦ let some : Some x ≡ None = sym (find-first (λ y. key y == key w) x xs here) ∙ none in cc
  | inr away ↦
      let rest = put_fresh key w xs (sym (find-behind (λ y. key y == key w) x xs away) ∙ none) in
      let inner : cond (eqb (key x) (key w)) (w ∷ xs) (x ∷ with_put key w xs) ≡ x ∷ with_item key w xs =
      cond-false (eqb (key x) (key w)) (w ∷ xs) (x ∷ with_put key w xs) away ∙ ap (λ (l : List X). x ∷ l) rest in
      ap (cond (ltb (key w) (key x)) (w ∷ x ∷ xs)) inner
]
