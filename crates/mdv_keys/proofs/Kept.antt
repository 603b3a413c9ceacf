-- Values that stay where keys go, one after another.
use Rattle.std.proofs.Common.{◌≡◌, ◌<◌, ◌+◌, ◌==◌, ◌||◌, ℕ, Bool, false, not, cond, refl, ◌∙◌, List, [], ◌∷◌, length, get_or, take, ap, inl, inr, arith}
use Rattle.std.specs.List.{All, list_any}
use Rattle.std.proofs.lemmas.Bool.{cases_eq}
use Rattle.std.proofs.lemmas.Bool.Decides.{nat_tests}
use Rattle.std.proofs.lemmas.List.Elements.{All-head, All-tail}
use Rattle.std.proofs.lemmas.List.Folds.{list_any_more}
use Rattle.mdv_plan.specs.Sorted.{unmarked, without}
use Rattle.mdv_keys.proofs.Any.{any_same}
use Rattle.mdv_keys.specs.Keys.{kept}
use Rattle.mdv_keys.specs.Marks.{AreMarks, same}

-- where no key goes, all stay
pub kept_all : {T : Type 0} (key : T → ℕ) (xs : List T) → kept key [] xs ≡ xs
kept_all key [] = refl
kept_all key (x ∷ xs) = ap (λ ys. x ∷ ys) (kept_all key xs)

-- those of one more key are gone
pub kept_more : {T : Type 0} (key : T → ℕ) (gone : List ℕ) (i d : ℕ) → i < length gone → (xs : List T) → without key (get_or gone i d) (kept key (take i gone) xs) ≡ kept key (take (i + 1) gone) xs
kept_more key gone i d within [] = refl
kept_more key gone i d within (x ∷ xs) =
    let more : list_any (λ k. key x == k) (take (i + 1) gone) ≡ (list_any (λ k. key x == k) (take i gone) || (key x == get_or gone i d)) = list_any_more (λ k. key x == k) gone i d within in
    let rest : without key (get_or gone i d) (kept key (take i gone) xs) ≡ kept key (take (i + 1) gone) xs = kept_more key gone i d within xs in
    grind (arith, more, rest)

-- the values whose keys aren't marked
pub unmarked_kept : {T : Type 0} (key : T → ℕ) (limit : ℕ) (marks : List Bool) (gone : List ℕ) (xs : List T) → AreMarks same limit marks gone → All (λ x. key x < limit) xs → unmarked key marks xs ≡ kept key gone xs
unmarked_kept key limit marks gone [] are small = refl
unmarked_kept {T = T} key limit marks gone (x ∷ xs) are small =
    let swapped : (ks : List ℕ) → list_any (λ k. k == key x) ks ≡ list_any (λ k. key x == k) ks = λ ks. any_same (λ k. k == key x) (λ k. key x == k) ks (λ i d within. same_other_way (get_or ks i d) (key x)) in
    let at : get_or marks (key x) false ≡ list_any (λ k. key x == k) gone = are.marked (key x) (All-head (λ y. key y < limit) x xs small) ∙ swapped gone in
    let rest = unmarked_kept key limit marks gone xs are (All-tail (λ y. key y < limit) x xs small) in
    ap (λ (b : Bool). cond (not b) (x ∷ unmarked key marks xs) (unmarked key marks xs)) at ∙ ap (λ (l : List T). cond (not (list_any (λ k. key x == k) gone)) (x ∷ l) l) rest
  where
    same_other_way : (a b : ℕ) → (a == b) ≡ (b == a)
    same_other_way a b = elim (cases_eq a b) [ inl e ↦ grind (arith, nat_tests) | inr other ↦ grind (arith, nat_tests) ]
