-- A set of texts beside a list of them.
use Rattle.std.proofs.Common.{◌≡◌, ◌<◌, ℕ, zero, suc, Bool, true, false, cond, refl, sym, ◌∙◌, ap, List, [], ◌∷◌, ◌++◌, ◌||◌, length, get_or, Contains, String, arith}
use Rattle.std.proofs.lemmas.List.Folds.{list_any-append}
use Rattle.std.proofs.lemmas.Slice.Eq.{bytes_eq-Decides}
use Rattle.std.specs.Str.{bytes_eq}
use Rattle.std.specs.List.{list_any}
use Rattle.std.specs.BTreeSet.{BTreeSet, contains_text}
use Rattle.mdv_name.specs.Index.{HasTexts}

pub Contains-from_any : (q : List ℕ) (xs : List (List ℕ)) → list_any (bytes_eq q) xs ≡ true → Contains xs q
Contains-from_any q [] = λ is. cc
Contains-from_any q (x ∷ xs) =
    let next : list_any (bytes_eq q) xs ≡ true → Contains xs q = Contains-from_any q xs in
    let P : Bool → Type 0 = λ v. bytes_eq q x ≡ v → v || list_any (bytes_eq q) xs ≡ true → Contains (x ∷ xs) q in
    (elim (bytes_eq q x) as P [
      | true ↦ λ same is. (0, omega arith, sym ((bytes_eq-Decides q x).0 same))
      | false ↦ λ other is. let found = next is in (suc found.0, omega (arith, found.1), found.2)
    ]) refl

or_right : (a b : Bool) → b ≡ true → a || b ≡ true
or_right true b is = refl
or_right false b is = is

any-from_at : (q : List ℕ) (xs : List (List ℕ)) (k : ℕ) → k < length xs → get_or xs k q ≡ q → list_any (bytes_eq q) xs ≡ true
any-from_at q [] k lt at = absurd (omega arith)
any-from_at q (x ∷ xs) zero lt at = let same : bytes_eq q x ≡ true = (bytes_eq-Decides q x).1 (sym at) in rw same
any-from_at q (x ∷ xs) (suc k) lt at = or_right (bytes_eq q x) (list_any (bytes_eq q) xs) (any-from_at q xs k (omega arith) at)

pub any-from_Contains : (q : List ℕ) (xs : List (List ℕ)) → Contains xs q → list_any (bytes_eq q) xs ≡ true
any-from_Contains q xs found = any-from_at q xs found.0 found.1 found.2

same_test : (a b : Bool) → (a ≡ true → b ≡ true) → (b ≡ true → a ≡ true) → a ≡ b
same_test true true to from = refl
same_test true false to from = sym (to refl)
same_test false true to from = from refl
same_test false false to from = refl

pub bytes_eq-comm : (xs ys : List ℕ) → bytes_eq xs ys ≡ bytes_eq ys xs
bytes_eq-comm xs ys =
    same_test (bytes_eq xs ys) (bytes_eq ys xs) (λ is. (bytes_eq-Decides ys xs).1 (sym ((bytes_eq-Decides xs ys).0 is))) (λ is. (bytes_eq-Decides xs ys).1 (sym ((bytes_eq-Decides ys xs).0 is)))

cond_or : (a b : Bool) → cond b true a ≡ a || (b || false)
cond_or true true = refl
cond_or true false = refl
cond_or false true = refl
cond_or false false = refl

pub HasTexts-push : {A : Type 0} (set new : BTreeSet (String A)) (names : List (List ℕ)) (name : List ℕ) → HasTexts set names → ((q : List ℕ) → contains_text new q ≡ cond (bytes_eq name q) true (contains_text set q)) → HasTexts new (names ++ name ∷ [])
HasTexts-push set new names name has updated q =
    updated q ∙ ap (λ (v : Bool). cond v true (contains_text set q)) (bytes_eq-comm name q) ∙ ap (λ (v : Bool). cond (bytes_eq q name) true v) (has q)
    ∙ cond_or (list_any (bytes_eq q) names) (bytes_eq q name) ∙ sym (list_any-append (bytes_eq q) names (name ∷ []))
