-- An order of need is the only one.
use Rattle.std.proofs.Common.{◌≡◌, ◌<◌, ◌≤◌, ◌+◌, ℕ, zero, suc, List, [], ◌∷◌, ◌++◌, length, take, get_or, refl, sym, ◌∙◌, subst, inl, inr, add-one, arith}
use Rattle.std.proofs.lemmas.Grind.{common_steps}
use Rattle.std.proofs.lemmas.List.{take_more}
use Rattle.std.proofs.lemmas.Bool.{cases_lt}
use Rattle.mdv_tab.specs.Order.{IsNext, IsOrder}

none_before : (needs : ℕ → ℕ → Type 0) (count : ℕ) (made : List ℕ) (i j : ℕ) → IsNext needs count made i → IsNext needs count made j → i < j → ⊥
none_before needs count made i j a b lt = elim b.first [
  | inl free ↦ elim a.first [
    | inl loose ↦ loose.0 (free.1 i lt a.remains)
    | inr all ↦ free.0 (all.0 j b.remains)
  ]
  | inr all ↦ all.1 i lt a.remains
]

one_next : (needs : ℕ → ℕ → Type 0) (count : ℕ) (made : List ℕ) (i j : ℕ) → IsNext needs count made i → IsNext needs count made j → i ≡ j
one_next needs count made i j a b = elim (cases_lt i j) [
  | inl lt ↦ absurd (none_before needs count made i j a b lt)
  | inr ge ↦ elim (cases_lt j i) [
    | inl lt ↦ absurd (none_before needs count made j i b a lt)
    | inr le ↦ omega arith
  ]
]

same_start : (needs : ℕ → ℕ → Type 0) (count : ℕ) (a b : List ℕ) → IsOrder needs count a → IsOrder needs count b → (k : ℕ) → k ≤ count → take k a ≡ take k b
same_start needs count a b p q zero le = refl
same_start needs count a b p q (suc k) le =
    let before : take k a ≡ take k b = same_start needs count a b p q k (omega arith) in
    let in_a : k < length a = omega (arith, p.all) in
    let in_b : k < length b = omega (arith, q.all) in
    let F : List ℕ → Type 0 = λ m. IsNext needs count m (get_or b k 0) in
    let here : get_or a k 0 ≡ get_or b k 0 = one_next needs count (take k a) _ _ (p.each k in_a) (subst F (sym before) (q.each k in_b)) in
    let more_a : take (k + 1) a ≡ take k a ++ get_or a k 0 ∷ [] = take_more a k 0 in_a in
    let more_b : take (k + 1) b ≡ take k b ++ get_or b k 0 ∷ [] = take_more b k 0 in_b in
    rw (← add-one) (cc)

whole : (xs : List ℕ) (n : ℕ) → length xs ≡ n → take n xs ≡ xs
whole xs n is = grind (arith, common_steps)

pub one_order : (needs : ℕ → ℕ → Type 0) (count : ℕ) (a b : List ℕ) → IsOrder needs count a → IsOrder needs count b → a ≡ b
one_order needs count a b p q = sym (whole a count p.all) ∙ same_start needs count a b p q count (omega arith) ∙ whole b count q.all
