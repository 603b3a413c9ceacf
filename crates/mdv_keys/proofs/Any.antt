-- Whether a value of a list passes a test.
use Rattle.std.proofs.Common.{◌≡◌, ◌<◌, ◌+◌, ◌&&◌, ◌||◌, ℕ, Bool, true, false, cond, nat_eq, refl, sym, ◌∙◌, ap, List, [], ◌∷◌, length, get_or, take, arith}
use Rattle.std.proofs.lemmas.Bool.Decides.{nat_tests}
use Rattle.std.proofs.lemmas.List.Elements.{All-head, All-tail}
use Rattle.std.proofs.lemmas.List.Folds.{list_any-append, list_any_more}
use Rattle.std.specs.BTreeMap.{is_at}
use Rattle.std.specs.List.{All, filter, flat_map, list_any}
use Rattle.std.specs.Ordering.{nat_cmp}

pub any_same : {T : Type 0} (p q : T → Bool) (xs : List T) → All (λ x. p x ≡ q x) xs → list_any p xs ≡ list_any q xs
any_same p q [] same = refl
any_same p q (x ∷ xs) same = ap (λ (b : Bool). b || list_any p xs) (All-head (λ y. p y ≡ q y) x xs same) ∙ ap (λ (b : Bool). q x || b) (any_same p q xs (All-tail (λ y. p y ≡ q y) x xs same))

interchange : (a b c d : Bool) → ((a || b) || (c || d)) ≡ ((a || c) || (b || d))
interchange true b c d = refl
interchange false true true d = refl
interchange false true false d = refl
interchange false false c d = refl

pub any_or : {T : Type 0} (p q : T → Bool) (xs : List T) → list_any (λ x. p x || q x) xs ≡ (list_any p xs || list_any q xs)
any_or p q [] = refl
any_or p q (x ∷ xs) = ap (λ (b : Bool). (p x || q x) || b) (any_or p q xs) ∙ interchange (p x) (q x) (list_any p xs) (list_any q xs)

pub any_and : {T : Type 0} (b : Bool) (p : T → Bool) (xs : List T) → list_any (λ x. b && p x) xs ≡ (b && list_any p xs)
any_and true p xs = refl
any_and false p [] = refl
any_and false p (x ∷ xs) = any_and false p xs

pub any_never : {T : Type 0} (xs : List T) → list_any (λ x. false) xs ≡ false
any_never [] = refl
any_never (x ∷ xs) = any_never xs

-- which of two lists is gone over first makes no difference
pub any_swap : {S T : Type 0} (p : S → T → Bool) (xs : List S) (ys : List T) → list_any (λ x. list_any (p x) ys) xs ≡ list_any (λ y. list_any (λ x. p x y) xs) ys
any_swap p [] ys = sym (any_never ys)
any_swap p (x ∷ xs) ys = ap (λ (b : Bool). list_any (p x) ys || b) (any_swap p xs ys) ∙ sym (any_or (p x) (λ y. list_any (λ z. p z y) xs) ys)

pub any_filter : {T : Type 0} (p q : T → Bool) (xs : List T) → list_any p (filter q xs) ≡ list_any (λ x. q x && p x) xs
any_filter p q [] = refl
any_filter p q (x ∷ xs) =
    elim (q x) as (λ b. list_any p (cond b (x ∷ filter q xs) (filter q xs)) ≡ ((b && p x) || list_any (λ y. q y && p y) xs)) [
      | true ↦ ap (λ (b : Bool). p x || b) (any_filter p q xs)
      | false ↦ any_filter p q xs
    ]

-- of each of several lists
pub any_flat : {S T : Type 0} (below : S → List T) (p : T → Bool) (test : S → Bool) → ((x : S) → test x ≡ list_any p (below x)) → (xs : List S) → list_any test xs ≡ list_any p (flat_map below xs)
any_flat below p test each [] = refl
any_flat below p test each (x ∷ xs) =
    ap (λ (b : Bool). b || list_any test xs) (each x) ∙ ap (λ (b : Bool). list_any p (below x) || b) (any_flat below p test each xs) ∙ sym (list_any-append p (below x) (flat_map below xs))

is_it : (a q : ℕ) → is_at (nat_cmp a) q ≡ nat_eq q a
is_it a q = grind (arith, nat_tests)

-- whether one of the numbers, or one more, is a number
pub there_more : (xs : List ℕ) (i d q : ℕ) (old new : Bool) → i < length xs → old ≡ list_any (nat_eq q) (take i xs) → new ≡ cond (is_at (nat_cmp (get_or xs i d)) q) true old → new ≡ list_any (nat_eq q) (take (i + 1) xs)
there_more xs i d q old new within was is =
    is
    ∙ ap (λ (b : Bool). cond b true old) (is_it (get_or xs i d) q)
    ∙ either (nat_eq q (get_or xs i d)) old
    ∙ ap (λ (b : Bool). b || nat_eq q (get_or xs i d)) was
    ∙ sym (list_any_more (nat_eq q) xs i d within)
  where
    either : (a b : Bool) → cond a true b ≡ (b || a)
    either true true = refl
    either true false = refl
    either false true = refl
    either false false = refl
