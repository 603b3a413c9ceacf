-- Lists, and courses and lists of events in two parts.
use Rattle.std.proofs.Common.{◌≡◌, ◌⊎◌, inl, inr, ⊎_elim, ℕ, zero, suc, ◌+◌, ◌<◌, Bool, true, List, [], ◌∷◌, ◌++◌, filter, length, slice_index_or, take, drop, Contains, refl, sym, ◌∙◌, ap, subst, arith}
use Rattle.std.proofs.lemmas.List.Elements.{Contains-append_cases}
use Rattle.mdv_shelf.proofs.Blocks.{both_ways}
use Rattle.mdv_store_law.specs.Machine.{AreAll, IsCourse, after_all}

pub first_or_behind : {X : Type 0} (x y : X) (xs : List X) → Contains (x ∷ xs) y → (x ≡ y) ⊎ Contains xs y
first_or_behind {X} x y xs has = by has.0 has.1 has.2 where
  by : (k : ℕ) → k < length (x ∷ xs) → slice_index_or (x ∷ xs) k y ≡ y → (x ≡ y) ⊎ Contains xs y
  by zero lt same = inl same
  by (suc k) lt same = inr (k, omega arith, same)

pub contains_first : {X : Type 0} (x : X) (xs : List X) → Contains (x ∷ xs) x
contains_first x xs = (0, omega arith, refl)

pub contains_behind : {X : Type 0} (y x : X) (xs : List X) → Contains xs x → Contains (y ∷ xs) x
contains_behind y x xs has = (suc has.0, omega (arith, has.1), has.2)

-- what passes a test was there, and passes it
pub in_filter : {X : Type 0} (p : X → Bool) (xs : List X) (x : X) → Contains (filter p xs) x → Contains xs x × (p x ≡ true)
in_filter p [] x = λ has. absurd (omega (arith, has.1))
in_filter {X} p (y ∷ xs) x = elim (both_ways (p y)) [
  | inl does ↦ rw does (λ has. ⊎_elim (λ here. (subst (λ (z : X). Contains (y ∷ xs) z) here (contains_first y xs), ap p (sym here) ∙ does))
      (λ behind. let rest = in_filter p xs x behind in (contains_behind y x xs rest.0, rest.1)) (first_or_behind y x (filter p xs) has))
  | inr never ↦ rw never (λ has. let rest = in_filter p xs x has in (contains_behind y x xs rest.0, rest.1))
]

in_take : {X : Type 0} (n : ℕ) (xs : List X) (x : X) → Contains (take n xs) x → Contains xs x
in_take zero xs x has = absurd (omega (arith, has.1))
in_take (suc n) [] x has = absurd (omega (arith, has.1))
in_take {X} (suc n) (y ∷ xs) x has = ⊎_elim (λ here. subst (λ (z : X). Contains (y ∷ xs) z) here (contains_first y xs)) (λ behind. contains_behind y x xs (in_take n xs x behind)) (first_or_behind y x (take n xs) has)

in_drop : {X : Type 0} (n : ℕ) (xs : List X) (x : X) → Contains (drop n xs) x → Contains xs x
in_drop zero xs x has = has
in_drop (suc n) [] x has = has
in_drop (suc n) (y ∷ xs) x has = contains_behind y x xs (in_drop n xs x has)

-- so did what is left without one
pub in_without : {X : Type 0} (place : ℕ) (xs : List X) (x : X) → Contains (take place xs ++ drop (place + 1) xs) x → Contains xs x
in_without place xs x has = ⊎_elim (λ front. in_take place xs x front) (λ rest. in_drop (place + 1) xs x rest) (Contains-append_cases (take place xs) (drop (place + 1) xs) x has)

module _ {S E : Type 0} (after : S → E → S) (May : S → E → Type 0) where
  pub course_front : (state : S) (es fs : List E) → IsCourse after May state (es ++ fs) → IsCourse after May state es
  course_front state [] fs course = tt
  course_front state (e ∷ es) fs course = (course.0, course_front (after state e) es fs course.1)

  pub course_rest : (state : S) (es fs : List E) → IsCourse after May state (es ++ fs) → IsCourse after May (after_all after state es) fs
  course_rest state [] fs course = course
  course_rest state (e ∷ es) fs course = course_rest (after state e) es fs course.1

module _ {E : Type 0} (Is : E → Type 0) where
  pub all_front : (es fs : List E) → AreAll Is (es ++ fs) → AreAll Is es
  all_front [] fs are = tt
  all_front (e ∷ es) fs are = (are.0, all_front es fs are.1)

  pub all_rest : (es fs : List E) → AreAll Is (es ++ fs) → AreAll Is fs
  all_rest [] fs are = are
  all_rest (e ∷ es) fs are = all_rest es fs are.1

  pub all_both : (es fs : List E) → AreAll Is es → AreAll Is fs → AreAll Is (es ++ fs)
  all_both [] fs one other = other
  all_both (e ∷ es) fs one other = (one.0, all_both es fs one.1 other)
