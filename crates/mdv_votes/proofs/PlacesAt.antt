-- What a look-up gives after a place was changed.
use Rattle.std.proofs.Common.{◌≡◌, Bool, true, false, refl, ap, sym, ◌∙◌, subst, List, [], ◌∷◌, length, cond, arith, inl, inr, ◌⊎◌, map}
use Rattle.std.proofs.lemmas.Bool.{cases_Bool, cond-true, cond-false, cond_both, false≢true}
use Rattle.mdv_votes.specs.declared.spot.Spot.{Spot}
use Rattle.mdv_votes.specs.declared.version.SpotState.{SpotState}
use Rattle.mdv_votes.specs.Spots.{same_spot}
use Rattle.mdv_votes.specs.Family.{place_at, blank_place, put_at, change_at, changed_at, wiped}
use Rattle.mdv_votes.proofs.Meeting.{same_is, same_self}

-- a change of a place leaves its spot
abbrev pub KeepsSpot : (SpotState → SpotState) → Type 0
KeepsSpot f = (x : SpotState) → (f x).spot ≡ x.spot

pub put_same : (xs : List SpotState) (p : Spot) (f : SpotState → SpotState) → KeepsSpot f → place_at (put_at xs p f) p ≡ f (place_at xs p)
put_same [] p f keeps =
    cond-true (same_spot (f (blank_place p)).spot p) (f (blank_place p)) (blank_place p) (ap (λ (s : Spot). same_spot s p) (keeps (blank_place p)) ∙ same_self p)
put_same (x ∷ xs) p f keeps =
    elim (cases_Bool (same_spot x.spot p)) [
      | inl is ↦
          ap (λ (l : List SpotState). place_at l p) (cond-true (same_spot x.spot p) (f x ∷ xs) (x ∷ put_at xs p f) is)
          ∙ cond-true (same_spot (f x).spot p) (f x) (place_at xs p) (ap (λ (s : Spot). same_spot s p) (keeps x) ∙ is)
          ∙ ap f (sym (cond-true (same_spot x.spot p) x (place_at xs p) is))
      | inr isnt ↦
          ap (λ (l : List SpotState). place_at l p) (cond-false (same_spot x.spot p) (f x ∷ xs) (x ∷ put_at xs p f) isnt)
          ∙ cond-false (same_spot x.spot p) x (place_at (put_at xs p f) p) isnt
          ∙ put_same xs p f keeps
          ∙ ap f (sym (cond-false (same_spot x.spot p) x (place_at xs p) isnt))
    ]

-- p isn't q
abbrev pub Apart : Spot → Spot → Type 0
Apart p q = same_spot p q ≡ false

apart_at : (s p q : Spot) → same_spot s p ≡ true → Apart p q → same_spot s q ≡ false
apart_at s p q e apart = ap (λ (t : Spot). same_spot t q) (same_is s p e) ∙ apart

pub put_other : (xs : List SpotState) (p q : Spot) (f : SpotState → SpotState) → KeepsSpot f → Apart p q → place_at (put_at xs p f) q ≡ place_at xs q
put_other [] p q f keeps apart =
    cond-false (same_spot (f (blank_place p)).spot q) (f (blank_place p)) (blank_place q) (ap (λ (s : Spot). same_spot s q) (keeps (blank_place p)) ∙ apart)
put_other (x ∷ xs) p q f keeps apart =
    elim (cases_Bool (same_spot x.spot p)) [
      | inl is ↦
          let not_q = apart_at x.spot p q is apart in
          ap (λ (l : List SpotState). place_at l q) (cond-true (same_spot x.spot p) (f x ∷ xs) (x ∷ put_at xs p f) is)
          ∙ cond-false (same_spot (f x).spot q) (f x) (place_at xs q) (ap (λ (s : Spot). same_spot s q) (keeps x) ∙ not_q)
          ∙ sym (cond-false (same_spot x.spot q) x (place_at xs q) not_q)
      | inr isnt ↦
          ap (λ (l : List SpotState). place_at l q) (cond-false (same_spot x.spot p) (f x ∷ xs) (x ∷ put_at xs p f) isnt)
          ∙ ap (λ (y : SpotState). cond (same_spot x.spot q) x y) (put_other xs p q f keeps apart)
    ]

-- the place that is looked up is the one asked for
pub spot_at : (xs : List SpotState) (p : Spot) → (place_at xs p).spot ≡ p
spot_at [] p = refl
spot_at (x ∷ xs) p =
    elim (cases_Bool (same_spot x.spot p)) [
      | inl is ↦ ap (λ (y : SpotState). y.spot) (cond-true (same_spot x.spot p) x (place_at xs p) is) ∙ same_is x.spot p is
      | inr isnt ↦ ap (λ (y : SpotState). y.spot) (cond-false (same_spot x.spot p) x (place_at xs p) isnt) ∙ spot_at xs p
    ]

-- a change of every place: what is looked up is changed, or nothing was known of it
pub map_at : (xs : List SpotState) (q : Spot) (f : SpotState → SpotState) → KeepsSpot f
    → (place_at (map f xs) q ≡ f (place_at xs q)) ⊎ ((place_at (map f xs) q ≡ blank_place q) × (place_at xs q ≡ blank_place q))
map_at [] q f keeps = inr (refl, refl)
map_at (x ∷ xs) q f keeps =
    let same : same_spot (f x).spot q ≡ same_spot x.spot q = ap (λ (s : Spot). same_spot s q) (keeps x) in
    elim (cases_Bool (same_spot x.spot q)) [
      | inl is ↦
          inl (cond-true (same_spot (f x).spot q) (f x) (place_at (map f xs) q) (same ∙ is)
          ∙ ap f (sym (cond-true (same_spot x.spot q) x (place_at xs q) is)))
      | inr isnt ↦
          let new = cond-false (same_spot (f x).spot q) (f x) (place_at (map f xs) q) (same ∙ isnt) in
          let old = cond-false (same_spot x.spot q) x (place_at xs q) isnt in
          elim (map_at xs q f keeps) [
            | inl a ↦ inl (new ∙ a ∙ ap f (sym old))
            | inr b ↦ inr (new ∙ b.0, old ∙ b.1)
          ]
    ]

-- after a put: the place itself, changed, or another, as before
pub put_cases : (xs : List SpotState) (p q : Spot) (f : SpotState → SpotState) → KeepsSpot f
    → ((p ≡ q) × (place_at (put_at xs p f) q ≡ f (place_at xs q))) ⊎ (Apart p q × (place_at (put_at xs p f) q ≡ place_at xs q))
put_cases xs p q f keeps =
    elim (cases_Bool (same_spot p q)) [
      | inl is ↦
          let e = same_is p q is in
          inl (e, subst (λ (s : Spot). place_at (put_at xs p f) s ≡ f (place_at xs s)) e (put_same xs p f keeps))
      | inr isnt ↦ inr (isnt, put_other xs p q f keeps isnt)
    ]

pub put_used : (xs : List SpotState) (p : Spot) (f : SpotState → SpotState) → length (put_at xs p f) ≡ 0 → ⊥
put_used [] p f h = absurd (omega arith)
put_used (x ∷ xs) p f h =
    let longer : (b : Bool) → length (cond b (f x ∷ xs) (x ∷ put_at xs p f)) ≡ 0 → ⊥ = λ b. elim b as (λ c. length (cond c (f x ∷ xs) (x ∷ put_at xs p f)) ≡ 0 → ⊥) [ true ↦ λ e. omega arith | false ↦ λ e. omega arith ] in
    longer (same_spot x.spot p) h

pub map_used : (xs : List SpotState) (f : SpotState → SpotState) → length (map f xs) ≡ 0 → length xs ≡ 0
map_used [] f h = refl
map_used (x ∷ xs) f h = absurd (omega arith)

wiped_keeps : (p : Spot) → KeepsSpot (changed_at p wiped)
wiped_keeps p x = cond_both (same_spot x.spot p) (wiped x) x (λ y. y.spot ≡ x.spot) (λ e. refl) (λ e. refl)

-- a place is blanked, or was never known
pub wipe_at : (xs : List SpotState) (p q : Spot) → place_at (change_at xs p wiped) q ≡ changed_at p wiped (place_at xs q)
wipe_at xs p q =
    elim (map_at xs q (changed_at p wiped) (wiped_keeps p)) [
      | inl a ↦ a
      | inr b ↦
          b.0 ∙ sym (cond_both (same_spot q p) (wiped (blank_place q)) (blank_place q) (λ y. y ≡ blank_place q) (λ e. refl) (λ e. refl))
          ∙ ap (changed_at p wiped) (sym b.1)
    ]

pub wiped_newest : (p : Spot) (x : SpotState) → (changed_at p wiped x).newest ≡ x.newest
wiped_newest p x = cond_both (same_spot x.spot p) (wiped x) x (λ y. y.newest ≡ x.newest) (λ e. refl) (λ e. refl)

pub wiped_claim : (p : Spot) (x : SpotState) → (changed_at p wiped x).claim ≡ x.claim
wiped_claim p x = cond_both (same_spot x.spot p) (wiped x) x (λ y. y.claim ≡ x.claim) (λ e. refl) (λ e. refl)

pub wiped_since : (p : Spot) (x : SpotState) → (changed_at p wiped x).since ≡ x.since
wiped_since p x = cond_both (same_spot x.spot p) (wiped x) x (λ y. y.since ≡ x.since) (λ e. refl) (λ e. refl)

pub wiped_floor : (p : Spot) (x : SpotState) → (changed_at p wiped x).floor ≡ x.floor
wiped_floor p x = cond_both (same_spot x.spot p) (wiped x) x (λ y. y.floor ≡ x.floor) (λ e. refl) (λ e. refl)

pub wiped_held : (p : Spot) (x : SpotState) → (changed_at p wiped x).holds ≡ true → x.holds ≡ true
wiped_held p x = cond_both (same_spot x.spot p) (wiped x) x (λ y. y.holds ≡ true → x.holds ≡ true) (λ e h. absurd (false≢true h)) (λ e h. h)

pub wiped_other : (p : Spot) (x : SpotState) → same_spot x.spot p ≡ false → (changed_at p wiped x).holds ≡ x.holds
wiped_other p x isnt = ap (λ (y : SpotState). y.holds) (cond-false (same_spot x.spot p) (wiped x) x isnt)

pub wiped_itself : (p : Spot) (x : SpotState) → same_spot x.spot p ≡ true → (changed_at p wiped x).holds ≡ false
wiped_itself p x is = ap (λ (y : SpotState). y.holds) (cond-true (same_spot x.spot p) (wiped x) x is)
