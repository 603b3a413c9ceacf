-- What holds of each element and each later one.
use Rattle.std.proofs.Common.{◌≡◌, ◌<◌, ◌+◌, ◌∙◌, ℕ, zero, suc, List, ◌∷◌, ◌++◌, length, get_or, take, drop, refl, sym, subst, Contains, arith}
use Rattle.std.proofs.lemmas.List.{length-append, get_or_append_left, get_or-append-add, get_or_default, take_more, drop_more, take-append-drop}
use Rattle.std.proofs.lemmas.List.Elements.{Contains-get_or}
use Rattle.std.proofs.lemmas.List.Quantifiers.{all_pairs_push}
use Rattle.std.specs.Prelude.{All, AllPairs}

pub AllPairs-cons : {X : Type 0} (R : X → X → Type 0) (x : X) (xs : List X) → All (R x) xs → AllPairs R xs → AllPairs R (x ∷ xs)
AllPairs-cons R x xs first pairs i zero d below within = absurd (omega arith)
AllPairs-cons R x xs first pairs zero (suc j) d below within = first j d (omega arith)
AllPairs-cons R x xs first pairs (suc i) (suc j) d below within = pairs i j d (omega arith) (omega arith)

pub AllPairs-first : {X : Type 0} (R : X → X → Type 0) (x : X) (xs : List X) → AllPairs R (x ∷ xs) → All (R x) xs
AllPairs-first R x xs pairs k d within = pairs 0 (suc k) d (omega arith) (omega arith)

pub AllPairs-rest : {X : Type 0} (R : X → X → Type 0) (x : X) (xs : List X) → AllPairs R (x ∷ xs) → AllPairs R xs
AllPairs-rest R x xs pairs i j d below within = pairs (suc i) (suc j) d (omega arith) (omega arith)

-- an element of the front and one of what follows
pub AllPairs-parts : {X : Type 0} (R : X → X → Type 0) (xs ys : List X) (x y : X) → AllPairs R (xs ++ ys) → Contains xs x → Contains ys y → R x y
AllPairs-parts R xs ys x y pairs first second =
    let size = length-append xs ys in
    let both = pairs first.0 (length xs + second.0) x (omega (arith, first.1)) (omega (arith, second.1)) in
    let before = get_or_append_left xs ys x first.0 first.1 in
    let behind = get_or-append-add xs ys second.0 x in
    let other = get_or_default ys second.0 x y second.1 in
    rw (sym (before ∙ first.2), sym (behind ∙ other ∙ second.2)) both

-- nothing stands there twice
abbrev pub Differ : {X : Type 0} → List X → Type 0
Differ {X} xs = AllPairs (λ (x y : X). x ≡ y → ⊥) xs

module _ {X : Type 0} (xs : List X) (i : ℕ) (d : X) (within : i < length xs) where
  -- one element more, which isn't among those in front of it
  pub differ_more : Differ (take i xs) → (Contains (take i xs) (get_or xs i d) → ⊥) → Differ (take (i + 1) xs)
  differ_more pairs none =
      let more = all_pairs_push (λ (x y : X). x ≡ y → ⊥) (take i xs) (get_or xs i d) pairs (λ k e inside same. none (subst (Contains (take i xs)) same (Contains-get_or (take i xs) k e inside))) in
      subst Differ (sym (take_more xs i d within)) more

  -- one that is among them
  pub never_differ : Contains (take i xs) (get_or xs i d) → Differ xs → ⊥
  never_differ has pairs =
      let x = get_or xs i d in
      let here : Contains (drop i xs) x = subst (λ (l : List X). Contains l x) (sym (drop_more xs i d within)) (0, omega arith, refl) in
      AllPairs-parts (λ (y z : X). y ≡ z → ⊥) (take i xs) (drop i xs) x x (subst Differ (sym (take-append-drop i xs)) pairs) has here refl
