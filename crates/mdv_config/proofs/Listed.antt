-- The listed places of a table of the geometry: 1 to 100, and none of them twice.
use Rattle.std.proofs.Common.{◌≡◌, ◌≤◌, Bool, true, false, cond, List, [], ◌∷◌, ◌++◌, length, get_or, Contains, arith}
use Rattle.std.proofs.lemmas.Bool.{false≢true}
use Rattle.std.proofs.lemmas.List.{length-append}
use Rattle.std.proofs.lemmas.List.Elements.{All-nil, All-cons, All-append, All-filter, Contains-append_right}
use Rattle.std.specs.Prelude.{All, not}
use Rattle.std.specs.List.{list_any}
use Rattle.mdv_config.specs.Below.{Place, Geometry}
use Rattle.mdv_config.specs.Below.{Lists}
use Rattle.mdv_config.specs.Below.{One, Two}
use Rattle.mdv_config.specs.Lists.{same_place, beside, places_of}
use Rattle.mdv_config.specs.Table.{IsListsOf}
use Rattle.mdv_config.proofs.Beside.{among-true, beside_few}
use Rattle.mdv_config.proofs.Pairs.{AllPairs-cons, AllPairs-first, AllPairs-rest, Differ}

abbrev Other : Place → Place → Type 0
Other p q = p ≡ q → ⊥

module _ (old : List Place) where
  -- what is beside a list isn't in it
  pub beside_apart : (new : List Place) → All (λ p. Contains old p → ⊥) (beside old new)
  beside_apart [] = All-nil _
  beside_apart (x ∷ xs) = one (list_any (same_place x) old) (among-true old x).1 (beside_apart xs)
    where
      one : (there : Bool) → (Contains old x → there ≡ true) → All (λ p. Contains old p → ⊥) (beside old xs) → All (λ p. Contains old p → ⊥) (cond (not there) (x ∷ beside old xs) (beside old xs))
      one true known others = others
      one false known others = All-cons (λ p. Contains old p → ⊥) x (beside old xs) (λ has. false≢true (known has)) others

  beside_differ : (new : List Place) → Differ new → Differ (beside old new)
  beside_differ [] differ = differ
  beside_differ (x ∷ xs) differ =
      let others = beside_differ xs (AllPairs-rest Other x xs differ) in
      let first = All-filter (λ p. not (list_any (same_place p) old)) (Other x) xs (AllPairs-first Other x xs differ) in
      elim (list_any (same_place x) old) as (λ b. Differ (cond (not b) (x ∷ beside old xs) (beside old xs))) [
        | true ↦ others
        | false ↦ AllPairs-cons Other x (beside old xs) first others
      ]

differ_both : (xs ys : List Place) → Differ xs → Differ ys → All (λ p. Contains xs p → ⊥) ys → Differ (xs ++ ys)
differ_both [] ys first second apart = second
differ_both (x ∷ xs) ys first second apart =
    let behind : All (Other x) ys = λ k d within same. apart k d within (0, omega arith, same) in
    let rest : All (λ p. Contains xs p → ⊥) ys = λ k d within has. apart k d within (Contains-append_right (x ∷ []) xs (get_or ys k d) has) in
    AllPairs-cons Other x (xs ++ ys) (All-append (Other x) xs ys (AllPairs-first Other x xs first) behind) (differ_both xs ys (AllPairs-rest Other x xs first) second rest)

module _ (g : Geometry) where
  pub listed_once : (l : Lists) → IsListsOf g l → Differ (places_of l)
  listed_once (One places) is = is.differ
  listed_once (Two old new) is = differ_both old (beside old new) is.0.differ (beside_differ old new is.1.differ) (beside_apart old new)

  pub listed_some : (l : Lists) → IsListsOf g l → 1 ≤ length (places_of l)
  listed_some (One places) is = is.some
  listed_some (Two old new) is = omega (arith, is.0.some, length-append old (beside old new))

  pub listed_few : (l : Lists) → IsListsOf g l → length (places_of l) ≤ 100
  listed_few (One places) is = omega (arith, is.few)
  listed_few (Two old new) is = omega (arith, is.0.few, is.1.few, length-append old (beside old new), beside_few old new)
