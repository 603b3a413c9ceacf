-- The places that are dropped are some of those that there were.
use Rattle.std.proofs.Common.{◌≡◌, ◌⊎◌, inl, inr, ℕ, Bool, true, false, cond, List, [], ◌∷◌, Contains, subst, arith}
use Rattle.mdv_acts.proofs.Members.{contains_behind, contains_first, first_or_behind}
use Rattle.mdv_acts.specs.Wipes.{AreLaidOn, in_front, ordered_with}
use Rattle.mdv_places.specs.Asked.{Asks, dropped, list_after}
use Rattle.mdv_places.specs.Below.{Geometry, Place, beside, same_slice}
use Rattle.mdv_places.proofs.Coming.{lacks, passes}

-- what is put in front is one of those, or the new one
front_one : (p : Place) (places : List Place) (q : Place) → Contains (in_front p places) q → (p ≡ q) ⊎ Contains places q
front_one p [] q has = elim (first_or_behind p q [] has) [ inl here ↦ inl here | inr none ↦ inr none ]
front_one p (x ∷ xs) q has = by (same_slice x.slice p.slice) has (front_one p xs q) where
  by : (b : Bool) → Contains (cond b (p ∷ (x ∷ xs)) (x ∷ in_front p xs)) q → (Contains (in_front p xs) q → (p ≡ q) ⊎ Contains xs q) → (p ≡ q) ⊎ Contains (x ∷ xs) q
  by true in_it rest = first_or_behind p q (x ∷ xs) in_it
  by false in_it rest = elim (first_or_behind x q (in_front p xs) in_it) [
    | inl here ↦ inr (subst (Contains (x ∷ xs)) here (contains_first x xs))
    | inr behind ↦ elim (rest behind) [
      | inl new ↦ inl new
      | inr was ↦ inr (contains_behind x q xs was)
    ]
  ]

ordered_one : (done places : List Place) (q : Place) → Contains (ordered_with done places) q → Contains done q ⊎ Contains places q
ordered_one done [] q has = inl has
ordered_one done (p ∷ ps) q has = elim (ordered_one (in_front p done) ps q has) [
  | inl front ↦ elim (front_one p done q front) [
    | inl here ↦ inr (subst (Contains (p ∷ ps)) here (contains_first p ps))
    | inr was ↦ inl was
  ]
  | inr behind ↦ inr (contains_behind p q ps behind)
]

-- and the list that comes lacks them
pub dropped_lacks : (asked : Asks) (places : List Place) (q : Place) → Contains (dropped asked places) q → Contains places q × (lacks (list_after asked places) q ≡ true)
dropped_lacks asked places q has = elim (ordered_one [] (beside (list_after asked places) places) q has) [
  | inl none ↦ absurd (omega (arith, none.1))
  | inr one ↦ passes (lacks (list_after asked places)) places q one
]

pub dropped_one : (asked : Asks) (places : List Place) (q : Place) → Contains (dropped asked places) q → Contains places q
dropped_one asked places q has = (dropped_lacks asked places q has).0

pub dropped_laid : (sizes : List ℕ) (g : Geometry) (asked : Asks) (places : List Place) → AreLaidOn sizes g places → AreLaidOn sizes g (dropped asked places)
dropped_laid sizes g asked places laid p has = laid p (dropped_one asked places p has)
