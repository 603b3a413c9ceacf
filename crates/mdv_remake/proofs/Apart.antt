-- Extents lie apart where some of them do that lie apart with more.
use Rattle.std.proofs.Common.{◌≡◌, ◌&&◌, ◌++◌, ℕ, Bool, true, false, refl, sym, ◌∙◌, ap, List, [], ◌∷◌, append_assoc, inl, inr}
use Rattle.std.specs.List.{filter, flat_map, list_all}
use Rattle.std.proofs.lemmas.Bool.{cases_Bool, and_parts, and_from}
use Rattle.std.proofs.lemmas.List.Folds.{list_all-append}
use Rattle.mdv_extent.specs.Extents.{is_clear_of, is_clear_of_all, is_extent, lie_apart}
use Rattle.mdv_extent.specs.Runs.{with_header}
use Rattle.mdv_remake.specs.Below.{Run}
use Rattle.mdv_remake.proofs.Kept.{filter-kept, filter-gone}

all_front : {Y : Type 0} (f : Y → Bool) (xs ys : List Y) → list_all f (xs ++ ys) ≡ true → (list_all f xs ≡ true) × (list_all f ys ≡ true)
all_front f xs ys all = and_parts (list_all f xs) (list_all f ys) (sym (list_all-append f xs ys) ∙ all)

all_both : {Y : Type 0} (f : Y → Bool) (xs ys : List Y) → list_all f xs ≡ true → list_all f ys ≡ true → list_all f (xs ++ ys) ≡ true
all_both f xs ys one two = list_all-append f xs ys ∙ and_from (list_all f xs) (list_all f ys) one two

-- what holds of all that some values give holds where fewer of them are kept
module _ {X Y : Type 0} (h : X → List Y) (v w : X → Bool) (fewer : (x : X) → v x ≡ true → w x ≡ true) where
  all_fewer : (f : Y → Bool) (xs : List X) → list_all f (flat_map h (filter w xs)) ≡ true → list_all f (flat_map h (filter v xs)) ≡ true
  all_fewer f [] all = refl
  all_fewer f (x ∷ xs) all = elim (cases_Bool (w x)) [
    | inl there ↦
        let parts = all_front f (h x) (flat_map h (filter w xs)) (sym (ap (λ (l : List X). list_all f (flat_map h l)) (filter-kept w x xs there)) ∙ all) in
        elim (cases_Bool (v x)) [
          | inl kept ↦ ap (λ (l : List X). list_all f (flat_map h l)) (filter-kept v x xs kept) ∙ all_both f (h x) (flat_map h (filter v xs)) parts.0 (all_fewer f xs parts.1)
          | inr gone ↦ ap (λ (l : List X). list_all f (flat_map h l)) (filter-gone v x xs gone) ∙ all_fewer f xs parts.1
        ]
    | inr out ↦
        let rest = all_fewer f xs (sym (ap (λ (l : List X). list_all f (flat_map h l)) (filter-gone w x xs out)) ∙ all) in
        elim (cases_Bool (v x)) [
          | inl kept ↦ let never : false ≡ true = sym out ∙ fewer x kept in cc
          | inr gone ↦ ap (λ (l : List X). list_all f (flat_map h l)) (filter-gone v x xs gone) ∙ rest
        ]
  ]

-- runs in front of others
front_kept : (n : ℕ) (runs old new : List Run) → ((a : Run) → is_clear_of_all a old ≡ true → is_clear_of_all a new ≡ true) → (lie_apart n old ≡ true → lie_apart n new ≡ true) →
    lie_apart n (runs ++ old) ≡ true → lie_apart n (runs ++ new) ≡ true
unfolding lie_apart
front_kept n [] old new clears apart is = apart is
front_kept n (r ∷ runs) old new clears apart is =
    let one = and_parts (is_extent n r) (is_clear_of_all r (runs ++ old) && lie_apart n (runs ++ old)) is in
    let two = and_parts (is_clear_of_all r (runs ++ old)) (lie_apart n (runs ++ old)) one.1 in
    let away = all_front (λ (s : Run). is_clear_of (with_header r) (with_header s)) runs old two.0 in
    let clear_new : is_clear_of_all r (runs ++ new) ≡ true = all_both (λ (s : Run). is_clear_of (with_header r) (with_header s)) runs new away.0 (clears r away.1) in
    and_from (is_extent n r) (is_clear_of_all r (runs ++ new) && lie_apart n (runs ++ new)) one.0
    (and_from (is_clear_of_all r (runs ++ new)) (lie_apart n (runs ++ new)) clear_new (front_kept n runs old new clears apart two.1))

behind_front : (n : ℕ) (runs old : List Run) → lie_apart n (runs ++ old) ≡ true → lie_apart n old ≡ true
unfolding lie_apart
behind_front n [] old is = is
behind_front n (r ∷ runs) old is =
    let one = and_parts (is_extent n r) (is_clear_of_all r (runs ++ old) && lie_apart n (runs ++ old)) is in
    behind_front n runs old (and_parts (is_clear_of_all r (runs ++ old)) (lie_apart n (runs ++ old)) one.1).1

module _ {X : Type 0} (h : X → List Run) (v w : X → Bool) (fewer : (x : X) → v x ≡ true → w x ≡ true) (n : ℕ) (runs : List Run) where
  clears_fewer : (xs : List X) (a : Run) → is_clear_of_all a (flat_map h (filter w xs) ++ runs) ≡ true → is_clear_of_all a (flat_map h (filter v xs) ++ runs) ≡ true
  clears_fewer xs a is =
      let parts = all_front (λ (s : Run). is_clear_of (with_header a) (with_header s)) (flat_map h (filter w xs)) runs is in
      all_both (λ (s : Run). is_clear_of (with_header a) (with_header s)) (flat_map h (filter v xs)) runs (all_fewer h v w fewer (λ (s : Run). is_clear_of (with_header a) (with_header s)) xs parts.0) parts.1

  at_first : (x : X) (xs : List X) (u : X → Bool) → u x ≡ true → flat_map h (filter u (x ∷ xs)) ++ runs ≡ h x ++ (flat_map h (filter u xs) ++ runs)
  at_first x xs u is = ap (λ (l : List X). flat_map h l ++ runs) (filter-kept u x xs is) ∙ append_assoc (h x) (flat_map h (filter u xs)) runs

  past_first : (x : X) (xs : List X) (u : X → Bool) → u x ≡ false → flat_map h (filter u (x ∷ xs)) ++ runs ≡ flat_map h (filter u xs) ++ runs
  past_first x xs u is = ap (λ (l : List X). flat_map h l ++ runs) (filter-gone u x xs is)

  pub fewer_apart : (xs : List X) → lie_apart n (flat_map h (filter w xs) ++ runs) ≡ true → lie_apart n (flat_map h (filter v xs) ++ runs) ≡ true
  fewer_apart [] is = is
  fewer_apart (x ∷ xs) is = elim (cases_Bool (w x)) [
    | inl there ↦
        let whole : lie_apart n (h x ++ (flat_map h (filter w xs) ++ runs)) ≡ true = sym (ap (lie_apart n) (at_first x xs w there)) ∙ is in
        elim (cases_Bool (v x)) [
          | inl kept ↦ ap (lie_apart n) (at_first x xs v kept) ∙ front_kept n (h x) (flat_map h (filter w xs) ++ runs) (flat_map h (filter v xs) ++ runs) (clears_fewer xs) (fewer_apart xs) whole
          | inr gone ↦ ap (lie_apart n) (past_first x xs v gone) ∙ fewer_apart xs (behind_front n (h x) (flat_map h (filter w xs) ++ runs) whole)
        ]
    | inr out ↦ elim (cases_Bool (v x)) [
      | inl kept ↦ let never : false ≡ true = sym out ∙ fewer x kept in cc
      | inr gone ↦ ap (lie_apart n) (past_first x xs v gone) ∙ fewer_apart xs (sym (ap (lie_apart n) (past_first x xs w out)) ∙ is)
    ]
  ]
