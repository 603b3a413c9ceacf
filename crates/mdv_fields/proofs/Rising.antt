-- Lists in which each is below the next.
use Rattle.std.proofs.Common.{◌≡◌, ◌<◌, ◌≤◌, ◌+◌, ◌-◌, ℕ, zero, suc, sym, ◌∙◌, ap, subst, List, length, get_or, inl, inr, arith}
use Rattle.std.proofs.lemmas.Bool.{cases_lt}
use Rattle.std.proofs.lemmas.List.{get_or_default}
use Rattle.std.specs.Prelude.{AllPairs}

-- as far as the first so many go
pub record RisesTo {T : Type 0} (below : T → T → Type 0) (xs : List T) (i : ℕ) : Type 0 where
  pub next : (k : ℕ) (d : T) → suc k < i → below (get_or xs k d) (get_or xs (suc k) d)

module _ {T : Type 0} (below : T → T → Type 0) (xs : List T) where
  pub rises_none : RisesTo below xs 1
  rises_none = record { next = λ k d within. absurd (omega arith) }

  pub rises_more : (i : ℕ) (x y : T) → x ≡ get_or xs (i - 1) x → y ≡ get_or xs i y → 1 ≤ i → i < length xs → below x y → RisesTo below xs i → RisesTo below xs (i + 1)
  rises_more i x y first second some within is so_far = record {
    next = λ k d inside. elim (cases_lt (suc k) i) [
      | inl before ↦ so_far.next k d before
      | inr at ↦
          let here : i ≡ suc k = omega arith in
          let there : i - 1 ≡ k = omega arith in
          let one : x ≡ get_or xs k d = first ∙ get_or_default xs (i - 1) x d (omega arith) ∙ ap (λ (n : ℕ). get_or xs n d) there in
          let two : y ≡ get_or xs (suc k) d = second ∙ get_or_default xs i y d within ∙ ap (λ (n : ℕ). get_or xs n d) here in
          subst (λ (b : T). below (get_or xs k d) b) two (subst (λ (a : T). below a y) one is)
    ];
  }

  pub rises_all : ((x y z : T) → below x y → below y z → below x z) → (i : ℕ) → length xs ≤ i → RisesTo below xs i → AllPairs below xs
  rises_all follows i enough so_far j zero d lt within = absurd (omega arith)
  rises_all follows i enough so_far j (suc k) d lt within =
      let last = so_far.next k d (omega arith) in
      elim (cases_lt j k) [
        | inl before ↦ follows (get_or xs j d) (get_or xs k d) (get_or xs (suc k) d) (rises_all follows i enough so_far j k d before (omega arith)) last
        | inr at ↦ let here : k ≡ j = omega arith in subst (λ (n : ℕ). below (get_or xs n d) (get_or xs (suc k) d)) here last
      ]

  pub falls : (i : ℕ) (x y : T) → x ≡ get_or xs (i - 1) x → y ≡ get_or xs i y → 1 ≤ i → i < length xs → (below x y → ⊥) → AllPairs below xs → ⊥
  falls i x y first second some within other all =
      let is = all (i - 1) i x (omega arith) within in
      other (subst (λ (b : T). below x b) (sym (second ∙ get_or_default xs i y x within)) (subst (λ (a : T). below a (get_or xs i x)) (sym first) is))
