-- Where places lie by the table of drives; and of a list, the first place and those that are dropped where it alone is left.
use Rattle.std.proofs.Common.{◌≡◌, ◌⊎◌, inl, inr, Bool, true, false, if◌then◌else◌, List, [], ◌∷◌, take, Contains, Option, Some, None, ap, arith, filter_map, refl, subst, sym, ◌∙◌}
use Rattle.std.specs.List.{cons_option, list_any}
use Rattle.std.specs.Prelude.{not}
use Rattle.mdv_acts.specs.Wipes.{in_front, ordered_with}
use Rattle.mdv_name.specs.SliceIndex.{same_slice}
use Rattle.mdv_places.proofs.Coming.{keeps, lacks}
use Rattle.mdv_places.specs.Asked.{KeepsFirst, dropped}
use Rattle.mdv_shelf.proofs.Blocks.{both_ways}
use Rattle.mdv_config.proofs.Beside.{among-true}
use Rattle.mdv_config.specs.Lists.{beside, same_place}
use Rattle.mdv_volumes.proofs.Lists.{contains_behind, contains_first, first_or_behind}
use Rattle.mdv_engine_law.specs.Below.{DriveNo, Place, SliceAt}

-- the drive of a place, by where its slice lies
abbrev pub drive_on : Option SliceAt → Option DriveNo
drive_on None = None
drive_on (Some at) = Some at.drive

-- what is found of a list comes of one in it
module _ {X Y : Type 0} (find : X → Option Y) where
  pub found_in : (xs : List X) (y : Y) → Contains (filter_map find xs) y → (x : X) × Contains xs x × (find x ≡ Some y)
  found_in [] y has = absurd (omega (arith, has.1))
  found_in (x ∷ xs) y has = by (find x) refl has (found_in xs y) where
    by : (o : Option Y) → find x ≡ o → Contains (cons_option o (filter_map find xs)) y → (Contains (filter_map find xs) y → (z : X) × Contains xs z × (find z ≡ Some y)) → (z : X) × Contains (x ∷ xs) z × (find z ≡ Some y)
    by None is there rest = (let z = rest there in (z.0, contains_behind x z.0 xs z.1, z.2))
    by (Some w) is there rest = elim (first_or_behind w y (filter_map find xs) there) [
      | inl same ↦ (x, contains_first x xs, is ∙ ap (λ (u : Y). Some u) same)
      | inr more ↦ (let z = rest more in (z.0, contains_behind x z.0 xs z.1, z.2))
    ]

  pub found_of : (xs : List X) (x : X) (y : Y) → Contains xs x → find x ≡ Some y → Contains (filter_map find xs) y
  found_of [] x y has is = absurd (omega (arith, has.1))
  found_of (z ∷ xs) x y has is = by (find z) refl (first_or_behind z x xs has) (λ behind. found_of xs x y behind is) where
    one : (u : Y) → ◌≡◌ {A = Option Y} (Some u) (Some y) → u ≡ y
    one u same = cc (same)

    by : (o : Option Y) → find z ≡ o → (z ≡ x) ⊎ Contains xs x → (Contains xs x → Contains (filter_map find xs) y) → Contains (cons_option o (filter_map find xs)) y
    by None none (inl same) rest = absurd (let here = ap find same in cc (none, here, is))
    by None none (inr behind) rest = rest behind
    by (Some u) some (inl same) rest = subst (λ (w : Y). Contains (w ∷ filter_map find xs) y) (sym (one u (sym some ∙ ap find same ∙ is))) (contains_first y (filter_map find xs))
    by (Some u) some (inr behind) rest = contains_behind u y (filter_map find xs) (rest behind)

-- each of these places is among them in the order in which they are wiped
front_has : (p : Place) (places : List Place) (q : Place) → (p ≡ q) ⊎ Contains places q → Contains (in_front p places) q
front_has p [] q (inl here) = subst (Contains (p ∷ [])) here (contains_first p [])
front_has p [] q (inr none) = absurd (omega (arith, none.1))
front_has p (x ∷ xs) q is = by (same_slice x.slice p.slice) is (front_has p xs q) where
  by : (b : Bool) → (p ≡ q) ⊎ Contains (x ∷ xs) q → ((p ≡ q) ⊎ Contains xs q → Contains (in_front p xs) q) → Contains (if b then p ∷ (x ∷ xs) else x ∷ in_front p xs) q
  by true (inl here) rest = subst (Contains (p ∷ (x ∷ xs))) here (contains_first p (x ∷ xs))
  by true (inr has) rest = contains_behind p q (x ∷ xs) has
  by false (inl here) rest = contains_behind x q (in_front p xs) (rest (inl here))
  by false (inr has) rest = elim (first_or_behind x q xs has) [
    | inl same ↦ subst (Contains (x ∷ in_front p xs)) same (contains_first x (in_front p xs))
    | inr behind ↦ contains_behind x q (in_front p xs) (rest (inr behind))
  ]

ordered_has : (done places : List Place) (q : Place) → Contains done q ⊎ Contains places q → Contains (ordered_with done places) q
ordered_has done [] q (inl has) = has
ordered_has done [] q (inr none) = absurd (omega (arith, none.1))
ordered_has done (p ∷ ps) q (inl has) = ordered_has (in_front p done) ps q (inl (front_has p done q (inr has)))
ordered_has done (p ∷ ps) q (inr has) = elim (first_or_behind p q ps has) [
  | inl here ↦ ordered_has (in_front p done) ps q (inl (front_has p done q (inl here)))
  | inr behind ↦ ordered_has (in_front p done) ps q (inr behind)
]

-- a place is the first one, or one of those that are dropped
pub first_or_dropped : (places : List Place) (p : Place) → Contains places p → Contains (take 1 places) p ⊎ Contains (dropped KeepsFirst places) p
first_or_dropped places p has = elim (both_ways (list_any (same_place p) (take 1 places))) [
  | inl first ↦ inl ((among-true (take 1 places) p).0 first)
  | inr other ↦ inr (ordered_has [] (beside (take 1 places) places) p (inr (keeps (lacks (take 1 places)) places p has (ap not other))))
]
