-- Of each name the places that stand on it.
use Rattle.std.proofs.Common.{◌≡◌, ◌≢◌, ◌<◌, ◌+◌, ◌⊎◌, ℕ, List, [], ◌∷◌, ◌++◌, length, take, get_or, sym, ◌∙◌, subst, inl, inr, arith}
use Rattle.std.specs.Prelude.{Contains}
use Rattle.std.proofs.Math.ListN.{set}
use Rattle.std.proofs.lemmas.List.{get_or-set_same, get_or-set_other, length-set, length-take-le, get_or-take, take_more, get_or_past}
use Rattle.std.proofs.lemmas.Bool.{cases_lt}
use Rattle.std.proofs.lemmas.List.Elements.{Contains-push, Contains-push_cases, Contains-append_left}
use Rattle.mdv_tab.specs.Graph.{AddsUser, AreUsers, list_at}
use Rattle.mdv_tab.proofs.Makings.{equal_or_not}

pub nothing_in : {X : Type 0} (x : X) → Contains [] x → ⊥
nothing_in x has = omega (arith, has.1)

pub within_lists : (lists : List (List ℕ)) (i x : ℕ) → Contains (list_at lists i) x → i < length lists
within_lists lists i x has = elim (cases_lt i (length lists)) [
  | inl lt ↦ lt
  | inr past ↦ let F : List ℕ → Type 0 = λ l. Contains l x in absurd (nothing_in x (subst F (get_or_past lists i [] past) has))
]

-- one more place at the end of one of the lists
module _ (lists : List (List ℕ)) (x place : ℕ) (within : x < length lists) where
  grown : List (List ℕ)
  grown = set lists x (list_at lists x ++ place ∷ [])

  grown_here : list_at grown x ≡ list_at lists x ++ place ∷ []
  unfolding grown
  grown_here = get_or-set_same lists x (list_at lists x ++ place ∷ []) [] within

  grown_other : (y : ℕ) → x ≢ y → list_at grown y ≡ list_at lists y
  unfolding grown
  grown_other y other = get_or-set_other lists x y (list_at lists x ++ place ∷ []) [] (λ e. other (sym e))

  grown_keeps : (y i : ℕ) → Contains (list_at lists y) i → Contains (list_at grown y) i
  grown_keeps y i has = let F : List ℕ → Type 0 = λ l. Contains l i in elim (equal_or_not x y) [
    | inl e ↦
        let G : ℕ → Type 0 = λ z. Contains (list_at grown z) i in
        let H : ℕ → Type 0 = λ z. Contains (list_at lists z) i in
        subst G e (subst F (sym grown_here) (Contains-append_left (list_at lists x) (place ∷ []) i (subst H (sym e) has)))
    | inr other ↦ subst F (sym (grown_other y other)) has
  ]

  grown_has : Contains (list_at grown x) place
  grown_has = let F : List ℕ → Type 0 = λ l. Contains l place in subst F (sym grown_here) (Contains-push (list_at lists x) place)

  grown_else : (y i : ℕ) → Contains (list_at grown y) i → Contains (list_at lists y) i ⊎ (place ≡ i)
  grown_else y i has = let F : List ℕ → Type 0 = λ l. Contains l i in elim (equal_or_not x y) [
    | inl e ↦
        let G : ℕ → Type 0 = λ z. Contains (list_at grown z) i in
        let H : ℕ → Type 0 = λ z. Contains (list_at lists z) i in
        elim (Contains-push_cases (list_at lists x) place i (subst F grown_here (subst G (sym e) has))) [ inl old ↦ inl (subst H e old) | inr is ↦ inr is ]
    | inr other ↦ inl (subst F (grown_other y other) has)
  ]

pub adds_more :
    (old mid : List (List ℕ)) (place x : ℕ) (names : List ℕ) (k : ℕ) → k < length names → x ≡ get_or names k 0 → x < length mid → AddsUser old mid place (take k names)
    → AddsUser old (set mid x (list_at mid x ++ place ∷ [])) place (take (k + 1) names)
unfolding grown
adds_more old mid place x names k inside is within so_far = record {
  same = length-set mid x (list_at mid x ++ place ∷ []) ∙ so_far.same;
  adds = λ y has.
      let F : List ℕ → Type 0 = λ l. Contains l y in
      elim (Contains-push_cases (take k names) (get_or names k 0) y (subst F (take_more names k 0 inside) has)) [
        | inl before ↦ grown_keeps mid x place within y place (so_far.adds y before)
        | inr e ↦ let G : ℕ → Type 0 = λ z. Contains (list_at (set mid x (list_at mid x ++ place ∷ [])) z) place in subst G (is ∙ e) (grown_has mid x place within)
      ];
  keeps = λ y i has. grown_keeps mid x place within y i (so_far.keeps y i has);
  none_else = λ y i has. elim (grown_else mid x place within y i has) [ inl before ↦ so_far.none_else y i before | inr e ↦ inr e ];
}

pub users_more :
    (names : ℕ) (stands old new : List (List ℕ)) (k : ℕ) (here : List ℕ) → k < length stands → here ≡ list_at stands k → AreUsers names (take k stands) old → AddsUser old new k here → AreUsers names (take (k + 1) stands) new
users_more names stands old new k here within is so_far more =
    let long : length (take (k + 1) stands) ≡ k + 1 = length-take-le (k + 1) stands (omega arith) in
    let short : length (take k stands) ≡ k = length-take-le k stands (omega arith) in
    record {
      same = more.same ∙ so_far.same;
      each = λ i x has.
          let inside : i < length (take (k + 1) stands) = within_lists (take (k + 1) stands) i x has in
          let F : List ℕ → Type 0 = λ l. Contains l x in
          let there : Contains (list_at stands i) x = subst F (get_or-take (k + 1) stands i [] (omega arith)) has in
          elim (equal_or_not k i) [
            | inl e ↦
                let G : ℕ → Type 0 = λ z. Contains (list_at stands z) x in
                let H : ℕ → Type 0 = λ z. Contains (list_at new x) z in
                subst H e (more.adds x (subst F (sym is) (subst G (sym e) there)))
            | inr other ↦ more.keeps x i (so_far.each i x (subst F (sym (get_or-take k stands i [] (omega arith))) there))
          ];
      within = λ i x has. elim (more.none_else x i has) [ inl before ↦ let lt = so_far.within i x before in omega (arith, lt, long, short) | inr e ↦ omega (arith, long, e) ];
    }
