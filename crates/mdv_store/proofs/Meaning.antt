-- What the greatest number and the seats are.
use Rattle.std.proofs.Common.{◌≡◌, ◌⊎◌, inl, inr, ℕ, max, Bool, true, false, cond, List, [], ◌∷◌, Option, Some, Contains, refl, sym, ◌∙◌, ap, subst, arith}
use Rattle.std.specs.List.{find}
use Rattle.std.proofs.lemmas.Bool.{cases_lt}
use Rattle.mdv_survey.specs.Choice.{is_of}
use Rattle.mdv_store.specs.Below.{Identity, Place, Replica, greatest}
use Rattle.mdv_store.specs.Boot.{greatest_number, is_seated, seat_for, seats_of}
use Rattle.mdv_store.proofs.Passes.{mapped}
use Rattle.mdv_store.proofs.Sitting.{contains_behind, contains_first, first_or_behind}

-- one of the two is the greater
one_of_two : (a b : ℕ) → (max a b ≡ a) ⊎ (max a b ≡ b)
one_of_two a b = elim (cases_lt a b) [ inl less ↦ inr (omega (arith, less)) | inr more ↦ inl (omega (arith, more)) ]

abbrev HasGreatest : Identity → List Replica → ℕ → Type 0
HasGreatest identity rs n = (n ≡ 0) ⊎ ((r : Replica) × Contains rs r × (is_of identity r ≡ true) × (greatest r.head ≡ n))

pub greatest_reached : (identity : Identity) (rs : List Replica) → HasGreatest identity rs (greatest_number identity rs)
greatest_reached identity [] = inl refl
greatest_reached identity (x ∷ rs) = by (is_of identity x) refl (later (greatest_number identity rs) (greatest_reached identity rs)) where
  later : (n : ℕ) → HasGreatest identity rs n → HasGreatest identity (x ∷ rs) n
  later n (inl none) = inl none
  later n (inr one) = inr (one.0, contains_behind x one.0 rs one.1, one.2, one.3)

  by : (b : Bool) → is_of identity x ≡ b → HasGreatest identity (x ∷ rs) (greatest_number identity rs) → HasGreatest identity (x ∷ rs) (cond b (max (greatest x.head) (greatest_number identity rs)) (greatest_number identity rs))
  by true own rest = elim (one_of_two (greatest x.head) (greatest_number identity rs)) [
    | inl here ↦ inr (x, contains_first x rs, own, sym here)
    | inr there ↦ subst (HasGreatest identity (x ∷ rs)) (sym there) rest
  ]
  by false other rest = rest

-- what one passes is found
find_one : {X : Type 0} (p : X → Bool) (xs : List X) (x : X) → Contains xs x → p x ≡ true → (q : X) × (find p xs ≡ Some q)
find_one p [] x has so = absurd (omega (arith, has.1))
find_one p (y ∷ ys) x has so = elim (first_or_behind y x ys has) [
  | inl here ↦ (y, found (p y) (ap p here ∙ so))
  | inr behind ↦ later (p y) (find_one p ys x behind so)
] where
  found : (b : Bool) → b ≡ true → cond b (Some y) (find p ys) ≡ Some y
  found true is = refl
  found false is = absurd (cc (is))

  later : (b : Bool) → (q : _) × (find p ys ≡ Some q) → (q : _) × (cond b (Some y) (find p ys) ≡ Some q)
  later true rest = (y, refl)
  later false rest = rest

module _ (replicas : List Replica) (identity : Identity) (text : ℕ) (p : Place) (r : Replica) (has_r : Contains replicas r) (seated : is_seated identity p text r ≡ true) where
  pub one : (q : Replica) × (find (is_seated identity p text) replicas ≡ Some q)
  one = find_one (is_seated identity p text) replicas r has_r seated

  pub seat_there : (places : List Place) → Contains places p → Contains (seats_of replicas identity text places) (record { place = p; replica = Some one.0 })
  seat_there places has =
      subst (λ (o : Option Replica). Contains (seats_of replicas identity text places) (record { place = p; replica = o })) one.1 (mapped (seat_for replicas identity text) places p has)
