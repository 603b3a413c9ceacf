-- The places of two lists, each once.
use Rattle.std.proofs.Common.{◌≡◌, ◌<◌, ◌≤◌, ◌+◌, ℕ, Bool, true, false, cond, refl, sym, ◌∙◌, ap, subst, List, [], ◌∷◌, ◌++◌, append_assoc, length, get_or, take, Contains, arith}
use Rattle.std.proofs.lemmas.Bool.{false≢true}
use Rattle.std.proofs.lemmas.List.{append-nil}
use Rattle.std.proofs.lemmas.List.Elements.{filter_more}
use Rattle.std.proofs.lemmas.List.Folds.{Any-from_list_any, list_any-append}
use Rattle.std.specs.Prelude.{◌↔◌, ◌||◌, not}
use Rattle.std.specs.List.{list_any}
use Rattle.mdv_config.specs.Below.{Place}
use Rattle.mdv_config.specs.Lists.{same_place, beside}
use Rattle.mdv_config.proofs.Deciding.{some_of, not_so}
use Rattle.mdv_config.proofs.Testing.{same_place-true}

-- the test finds a place exactly where it is one of the list
pub among-true : (ps : List Place) (p : Place) → list_any (same_place p) ps ≡ true ↔ Contains ps p
among-true ps p = (
  λ is.
      let any = Any-from_list_any (same_place p) ps is in
      let has : Contains ps any.1 = (any.0, any.2, any.3) in
      subst (Contains ps) (sym ((same_place-true p any.1).0 any.4)) has,
  λ has. some_of (same_place p) ps p has ((same_place-true p p).1 refl),
)

abbrev lacks : List Place → Place → Bool
lacks old p = not (list_any (same_place p) old)

-- those beside a list are no more than all
pub beside_few : (old new : List Place) → length (beside old new) ≤ length new
beside_few old [] = omega arith
beside_few old (x ∷ xs) = elim (lacks old x) as (λ b. length (cond b (x ∷ beside old xs) (beside old xs)) ≤ length (x ∷ xs)) [
  | true ↦ omega (arith, beside_few old xs)
  | false ↦ omega (arith, beside_few old xs)
]

module _ (old new : List Place) (i : ℕ) (d : Place) (within : i < length new) where
  -- one place more of the second list, which the first one lacks
  beside_more : (Contains old (get_or new i d) → ⊥) → beside old (take (i + 1) new) ≡ beside old (take i new) ++ get_or new i d ∷ []
  beside_more none =
      let x = get_or new i d in
      let not_there = not_so (list_any (same_place x) old) (among-true old x) none in
      filter_more (lacks old) new i d within ∙ ap (λ (b : Bool). beside old (take i new) ++ cond (not b) (x ∷ []) []) not_there

  -- one that it has
  pub beside_same : Contains old (get_or new i d) → beside old (take (i + 1) new) ≡ beside old (take i new)
  beside_same has =
      let x = get_or new i d in
      let there = (among-true old x).1 has in
      filter_more (lacks old) new i d within ∙ ap (λ (b : Bool). beside old (take i new) ++ cond (not b) (x ∷ []) []) there ∙ append-nil (beside old (take i new))

  -- where it was added to those before it, behind others
  pub added_more : (front so_far : List Place) → so_far ≡ front ++ beside old (take i new) → (Contains old (get_or new i d) → ⊥) → so_far ++ get_or new i d ∷ [] ≡ front ++ beside old (take (i + 1) new)
  added_more front so_far is none =
      let x = get_or new i d in
      ap (λ (l : List Place). l ++ x ∷ []) is ∙ append_assoc front (beside old (take i new)) (x ∷ []) ∙ ap (λ (l : List Place). front ++ l) (sym (beside_more none))

-- a part of an or, in another place of it
or_inside : (a t r s : Bool) → (a || r) ≡ (a || s) → (a || (t || r)) ≡ (a || (t || s))
or_inside true t r s same = refl
or_inside false true r s same = refl
or_inside false false r s same = same

or_known : (a t r s : Bool) → (t ≡ true → a ≡ true) → (a || r) ≡ (a || s) → (a || r) ≡ (a || (t || s))
or_known true t r s known same = refl
or_known false true r s known same = absurd (false≢true (known refl))
or_known false false r s known same = same

module _ (test : Place → Bool) (old : List Place) where
  -- a place that the first list has
  found : (x : Place) → list_any (same_place x) old ≡ true → test x ≡ true → list_any test old ≡ true
  found x there passes = some_of test old x ((among-true old x).0 there) passes

  -- among the others, a place that the first list has changes nothing
  beside_any : (new : List Place) → (list_any test old || list_any test (beside old new)) ≡ (list_any test old || list_any test new)
  beside_any [] = refl
  beside_any (x ∷ xs) = one (list_any (same_place x) old) (found x) (beside_any xs)
    where
      one : (there : Bool) → (there ≡ true → test x ≡ true → list_any test old ≡ true) → (list_any test old || list_any test (beside old xs)) ≡ (list_any test old || list_any test xs) → (list_any test old || list_any test (cond (not there) (x ∷ beside old xs) (beside old xs))) ≡ (list_any test old || (test x || list_any test xs))
      one true known same = or_known (list_any test old) (test x) (list_any test (beside old xs)) (list_any test xs) (known refl) same
      one false known same = or_inside (list_any test old) (test x) (list_any test (beside old xs)) (list_any test xs) same

  -- whether a place of one of the lists passes
  pub any_each : (new : List Place) → list_any test (old ++ beside old new) ≡ (list_any test old || list_any test new)
  any_each new = list_any-append test old (beside old new) ∙ beside_any new
