-- A majority of a list and at least half of it have a common place.
use Rattle.std.proofs.Common.{◌≡◌, ◌<◌, ◌≤◌, ◌+◌, ◌*◌, ℕ, suc, Bool, true, false, refl, sym, ◌∙◌, List, [], ◌∷◌, ◌++◌, length, ◌&&◌, ◌||◌, cond, arith, inl, inr, ◌⊎◌}
use Rattle.std.proofs.lemmas.Bool.{and_parts, or_left, or_right, or_cases, cases_Bool, ltb-true, leb-true, eqb-true, eq-eqb, false≢true, and_from, cond-false, le-leb}
use Rattle.std.proofs.lemmas.List.Sums.{sum_by-cons}
use Rattle.std.specs.Prelude.{count_by, ◌==◌}
use Rattle.mdv_votes.specs.declared.spot.Spot.{Spot}
use Rattle.mdv_votes.specs.Spots.{same_kind, same_spot, is_in, is_majority, is_half}
use Rattle.mdv_votes.specs.Laws.{HalvesMeet}

kind_same : (a b : Bool) → same_kind a b ≡ true → a ≡ b
kind_same true true h = refl
kind_same true false h = cc
kind_same false true h = cc
kind_same false false h = refl

kind_self : (a : Bool) → same_kind a a ≡ true
kind_self true = refl
kind_self false = refl

pub same_is : (p q : Spot) → same_spot p q ≡ true → p ≡ q
same_is p q h =
    let a = and_parts (p.drive.0 == q.drive.0) ((p.first == q.first) && same_kind p.mediator q.mediator) h in
    let b = and_parts (p.first == q.first) (same_kind p.mediator q.mediator) a.1 in
    let drive = eqb-true p.drive.0 q.drive.0 a.0 in
    let first = eqb-true p.first q.first b.0 in
    let kind = kind_same p.mediator q.mediator b.1 in
    λ i. record { drive = record { 0 = drive i }; first = first i; mediator = kind i }

pub same_self : (p : Spot) → same_spot p p ≡ true
same_self p =
    and_from (p.drive.0 == p.drive.0) ((p.first == p.first) && same_kind p.mediator p.mediator) (eq-eqb p.drive.0 p.drive.0 refl)
    (and_from (p.first == p.first) (same_kind p.mediator p.mediator) (eq-eqb p.first p.first refl) (kind_self p.mediator))

pub in_append : (xs ys : List Spot) (p : Spot) → is_in (xs ++ ys) p ≡ (is_in xs p || is_in ys p)
in_append [] ys p = refl
in_append (x ∷ xs) ys p = elim (same_spot x p) as (λ b. (b || is_in (xs ++ ys) p) ≡ ((b || is_in xs p) || is_in ys p)) [ true ↦ refl | false ↦ in_append xs ys p ]

-- a list with one more at its end
pub in_more : (xs : List Spot) (y p : Spot) → is_in (xs ++ y ∷ []) p ≡ true → (is_in xs p ≡ true) ⊎ (y ≡ p)
in_more xs y p h =
    elim (or_cases (is_in xs p) (is_in (y ∷ []) p) (sym (in_append xs (y ∷ []) p) ∙ h)) [
      | inl a ↦ inl a
      | inr b ↦ elim (or_cases (same_spot y p) false b) [ inl c ↦ inr (same_is y p c) | inr d ↦ absurd (false≢true d) ]
    ]

pub in_old : (xs : List Spot) (y p : Spot) → is_in xs p ≡ true → is_in (xs ++ y ∷ []) p ≡ true
in_old xs y p h = in_append xs (y ∷ []) p ∙ or_left (is_in xs p) (is_in (y ∷ []) p) h

pub in_new : (xs : List Spot) (y : Spot) → is_in (xs ++ y ∷ []) y ≡ true
in_new xs y = in_append xs (y ∷ []) y ∙ or_right (is_in xs y) (is_in (y ∷ []) y) (or_left (same_spot y y) false (same_self y))

-- those in both sets
both : (Spot → Bool) → (Spot → Bool) → Spot → Bool
both s r p = s p && r p

pub step_counted : (s : Spot → Bool) (x : Spot) (xs : List Spot) → count_by s (x ∷ xs) ≡ cond (s x) 1 0 + count_by s xs
step_counted s x xs = sum_by-cons (λ (y : Spot). cond (s y) 1 0) x xs

split_step : (a b : Bool) (m n k l : ℕ) → m + n ≤ l + k → (cond a 1 0 + m) + (cond b 1 0 + n) ≤ suc l + (cond (a && b) 1 0 + k)
split_step true true m n k l h = omega arith
split_step true false m n k l h = omega arith
split_step false true m n k l h = omega arith
split_step false false m n k l h = omega arith

split_count : (s r : Spot → Bool) (xs : List Spot) → count_by s xs + count_by r xs ≤ length xs + count_by (both s r) xs
unfolding both
split_count s r [] = omega arith
split_count s r (x ∷ xs) =
    omega (
      arith,
      step_counted s x xs,
      step_counted r x xs,
      step_counted (both s r) x xs,
      split_step (s x) (r x) (count_by s xs) (count_by r xs) (count_by (both s r) xs) (length xs) (split_count s r xs),
    )

-- where some are counted there is one
one_counted : (s : Spot → Bool) (xs : List Spot) → 0 < count_by s xs → (p : Spot) × (s p ≡ true) × (is_in xs p ≡ true)
one_counted s [] h = absurd (omega arith)
one_counted s (x ∷ xs) h =
    elim (cases_Bool (s x)) [
      | inl is ↦ (x, is, or_left (same_spot x x) (is_in xs x) (same_self x))
      | inr isnt ↦
          let rest : 0 < count_by s xs = omega (arith, step_counted s x xs, cond-false {A = ℕ} (s x) 1 0 isnt) in
          let found = one_counted s xs rest in
          (found.0, found.1, or_right (same_spot x found.0) (is_in xs found.0) found.2)
    ]

-- two sets that count more than the list is long have one of it in common
pub meet_counted : (s r : Spot → Bool) (list : List Spot) → length list < count_by s list + count_by r list → (p : Spot) × (s p ≡ true) × (r p ≡ true) × (is_in list p ≡ true)
unfolding both
meet_counted s r list h =
    let some : 0 < count_by (both s r) list = omega (arith, split_count s r list, h) in
    let found = one_counted (both s r) list some in
    let parts = and_parts (s found.0) (r found.0) found.1 in
    (found.0, parts.0, parts.1, found.2)

-- the meeting lemma, over any two sets of places
pub meet : HalvesMeet
meet took read list half most =
    meet_counted took read list (omega (arith, leb-true (length list) (2 * count_by took list) half, ltb-true (length list) (2 * count_by read list) most))

-- a majority is at least half
pub half_of_majority : (took : Spot → Bool) (list : List Spot) → is_majority took list ≡ true → is_half took list ≡ true
half_of_majority took list most = le-leb (length list) (2 * count_by took list) (omega (arith, ltb-true (length list) (2 * count_by took list) most))
