-- What is told of a volume after the states of one have changed.
use Rattle.std.proofs.Common.{◌≡◌, ◌==◌, refl, sym, ◌∙◌, List, [], ◌∷◌, map, Option, None, Some, inl, inr, arith}
use Rattle.std.specs.List.{find}
use Rattle.std.proofs.lemmas.Bool.Decides.{nat_tests}
use Rattle.mdv_notes.specs.Below.{VolId, KindStatus, VolumeStatus}
use Rattle.mdv_notes.specs.Noted.{restated}
use Rattle.mdv_notes.specs.Told.{told_of}
use Rattle.mdv_notes.proofs.Finding.{same_or_other}

module _ {A : Type 0} (none : A) (one : KindStatus → A) (v : VolId) (f : KindStatus → KindStatus) (w : VolId) where
  -- of the other volumes the same
  pub told_other : (xs : List VolumeStatus) → (v.0 ≡ w.0 → ⊥) → told_of none one (find (λ x. x.number.0 == w.0) (map (restated v f) xs)) ≡ told_of none one (find (λ x. x.number.0 == w.0) xs)
  told_other [] apart = refl
  told_other (x ∷ xs) apart =
      let rest = told_other xs apart in
      elim (same_or_other x.number.0 w.0) [
        | inl here ↦ let not_own : x.number.0 ≡ v.0 → ⊥ = λ is. apart (sym is ∙ here) in grind (arith, nat_tests)
        | inr other ↦ elim (same_or_other x.number.0 v.0) [ inl own ↦ grind (arith, nat_tests) | inr not_own ↦ grind (arith, nat_tests) ]
      ]

  -- of the volume itself what has been made of it
  pub told_own : (xs : List VolumeStatus) → v.0 ≡ w.0 → told_of none one (find (λ x. x.number.0 == w.0) (map (restated v f) xs)) ≡ told_of none (λ k. one (f k)) (find (λ x. x.number.0 == w.0) xs)
  told_own [] same = refl
  told_own (x ∷ xs) same =
      let rest = told_own xs same in
      elim (same_or_other x.number.0 w.0) [
        | inl here ↦ let own : x.number.0 ≡ v.0 = here ∙ sym same in grind (arith, nat_tests)
        | inr other ↦ let not_own : x.number.0 ≡ v.0 → ⊥ = λ is. other (is ∙ same) in grind (arith, nat_tests)
      ]

  -- and of any volume the same, where nothing has been made of this
  pub told_same : (xs : List VolumeStatus) → ((k : KindStatus) → one (f k) ≡ one k) → told_of none one (find (λ x. x.number.0 == w.0) (map (restated v f) xs)) ≡ told_of none one (find (λ x. x.number.0 == w.0) xs)
  told_same xs alike = elim (same_or_other v.0 w.0) [
    | inl own ↦ told_own xs own ∙ same_of (find (λ x. x.number.0 == w.0) xs) alike
    | inr apart ↦ told_other xs apart
  ]
    where
      same_of : (o : Option VolumeStatus) → ((k : KindStatus) → one (f k) ≡ one k) → told_of none (λ k. one (f k)) o ≡ told_of none one o
      same_of None alike = refl
      same_of (Some s) alike = alike s.kind

  -- what has been made of the one thing that is told
  pub told_made : (g : A → A) (xs : List VolumeStatus) → v.0 ≡ w.0 → g none ≡ none → ((k : KindStatus) → one (f k) ≡ g (one k)) → told_of none one (find (λ x. x.number.0 == w.0) (map (restated v f) xs)) ≡ g (told_of none one (find (λ x. x.number.0 == w.0) xs))
  told_made g xs same nothing made = told_own xs same ∙ through (find (λ x. x.number.0 == w.0) xs)
    where
      through : (o : Option VolumeStatus) → told_of none (λ k. one (f k)) o ≡ g (told_of none one o)
      through None = sym nothing
      through (Some s) = made s.kind
