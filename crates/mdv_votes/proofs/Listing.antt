-- A place put in a list.
use Rattle.std.proofs.Common.{◌≡◌, ◌<◌, ◌≤◌, ◌+◌, ℕ, suc, true, refl, ap, sym, ◌∙◌, List, [], ◌∷◌, ◌++◌, length, arith, add-one, inl, inr, map, take, drop, get_or, subst}
use Rattle.std.proofs.Math.ListN.{set, length-set}
use Rattle.std.proofs.lemmas.List.{get_or_default}
use Rattle.std.proofs.lemmas.List.Edits.{map_over_more}
use Rattle.std.proofs.lemmas.Bool.{cases_Bool, cond-true, cond-false, false≢true}
use Rattle.mdv_votes.specs.declared.spot.Spot.{Spot}
use Rattle.mdv_votes.specs.declared.version.SpotState.{SpotState}
use Rattle.mdv_votes.specs.Spots.{same_spot}
use Rattle.mdv_votes.specs.Family.{replaced_at, index_at, place_at, put_at}

pub replaced_inside : (xs : List SpotState) (p : Spot) (y : SpotState) → index_at xs p < length xs → replaced_at xs p y ≡ set xs (index_at xs p) y
replaced_inside [] p y h = absurd (omega arith)
replaced_inside (x ∷ xs) p y h =
    elim (cases_Bool (same_spot x.spot p)) [
      | inl is ↦
          cond-true (same_spot x.spot p) (y ∷ xs) (x ∷ replaced_at xs p y) is
          ∙ ap (λ (k : ℕ). set (x ∷ xs) k y) (sym (cond-true (same_spot x.spot p) 0 (index_at xs p + 1) is))
      | inr isnt ↦
          let index : index_at (x ∷ xs) p ≡ suc (index_at xs p) = cond-false (same_spot x.spot p) 0 (index_at xs p + 1) isnt ∙ add-one (index_at xs p) in
          cond-false (same_spot x.spot p) (y ∷ xs) (x ∷ replaced_at xs p y) isnt
          ∙ ap (λ (l : List SpotState). x ∷ l) (replaced_inside xs p y (omega (arith, h, index)))
          ∙ ap (λ (k : ℕ). set (x ∷ xs) k y) (sym index)
    ]

pub replaced_outside : (xs : List SpotState) (p : Spot) (y : SpotState) → length xs ≤ index_at xs p → replaced_at xs p y ≡ xs ++ y ∷ []
replaced_outside [] p y h = refl
replaced_outside (x ∷ xs) p y h =
    elim (cases_Bool (same_spot x.spot p)) [
      | inl is ↦ absurd (omega (arith, h, cond-true {A = ℕ} (same_spot x.spot p) 0 (index_at xs p + 1) is))
      | inr isnt ↦
          let index : index_at (x ∷ xs) p ≡ index_at xs p + 1 = cond-false (same_spot x.spot p) 0 (index_at xs p + 1) isnt in
          cond-false (same_spot x.spot p) (y ∷ xs) (x ∷ replaced_at xs p y) isnt ∙ ap (λ (l : List SpotState). x ∷ l) (replaced_outside xs p y (omega (arith, h, index)))
    ]

-- what holds something is known
pub held_inside : (xs : List SpotState) (p : Spot) → (place_at xs p).holds ≡ true → index_at xs p < length xs
held_inside [] p h = absurd (false≢true h)
held_inside (x ∷ xs) p h =
    elim (cases_Bool (same_spot x.spot p)) [
      | inl is ↦ omega (arith, cond-true {A = ℕ} (same_spot x.spot p) 0 (index_at xs p + 1) is)
      | inr isnt ↦
          let more = held_inside xs p (sym (ap (λ (y : SpotState). y.holds) (cond-false (same_spot x.spot p) x (place_at xs p) isnt)) ∙ h) in
          omega (arith, more, cond-false {A = ℕ} (same_spot x.spot p) 0 (index_at xs p + 1) isnt)
    ]

-- a change of a place puts there what becomes of it
pub put_replaces : (xs : List SpotState) (p : Spot) (f : SpotState → SpotState) → put_at xs p f ≡ replaced_at xs p (f (place_at xs p))
put_replaces [] p f = refl
put_replaces (x ∷ xs) p f =
    elim (cases_Bool (same_spot x.spot p)) [
      | inl is ↦
          cond-true (same_spot x.spot p) (f x ∷ xs) (x ∷ put_at xs p f) is
          ∙ ap (λ (y : SpotState). f y ∷ xs) (sym (cond-true (same_spot x.spot p) x (place_at xs p) is))
          ∙ sym (cond-true (same_spot x.spot p) (f (place_at (x ∷ xs) p) ∷ xs) (x ∷ replaced_at xs p (f (place_at (x ∷ xs) p))) is)
      | inr isnt ↦
          cond-false (same_spot x.spot p) (f x ∷ xs) (x ∷ put_at xs p f) isnt
          ∙ ap (λ (l : List SpotState). x ∷ l) (put_replaces xs p f)
          ∙ ap (λ (y : SpotState). x ∷ replaced_at xs p (f y)) (sym (cond-false (same_spot x.spot p) x (place_at xs p) isnt))
          ∙ sym (cond-false (same_spot x.spot p) (f (place_at (x ∷ xs) p) ∷ xs) (x ∷ replaced_at xs p (f (place_at (x ∷ xs) p))) isnt)
    ]

-- one more place changed in a list that is changed from its front on
pub map_step : (f : SpotState → SpotState) (xs ys zs ws : List SpotState) (i : ℕ) (d y : SpotState) → i < length zs → zs ≡ ys → ys ≡ map f (take i xs) ++ drop i xs → length ys ≡ length xs
    → y ≡ f (get_or zs i d) → ws ≡ set ys i y → (ws ≡ map f (take (i + 1) xs) ++ drop (i + 1) xs) × (length ws ≡ length xs)
map_step f xs ys zs ws i d y h same done size is put =
    let x = get_or zs i d in
    let within : i < length ys = subst (λ (l : List SpotState). i < length l) same h in
    let read : x ≡ get_or ys i x = ap (λ (l : List SpotState). get_or l i d) same ∙ get_or_default ys i d x within in
    let step = map_over_more f xs ys i x (subst (λ (n : ℕ). i < n) size within) done read in (
      put ∙ ap (set ys i) is ∙ step,
      ap length put ∙ length-set ys i y ∙ size,
    )
