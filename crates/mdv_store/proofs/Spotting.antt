-- The spots of the seats that are asked for: the first list of their table names each of them.
use Rattle.std.proofs.Common.{◌≡◌, ◌⊎◌, inl, inr, ℕ, zero, suc, ◌+◌, ◌*◌, ◌<◌, ◌≤◌, Bool, true, false, ◌||◌, List, [], ◌∷◌, ◌++◌, length, map, Contains, Option, Some, None, refl, sym, ◌∙◌, ap, subst, arith}
use Rattle.std.specs.List.{cons_option}
use Rattle.std.proofs.lemmas.Bool.{or_left, or_right}
use Rattle.std.proofs.lemmas.List.{length-append}
use Rattle.mdv_base.specs.declared.place.Place.{Place}
use Rattle.mdv_name.specs.SliceIndex.{slice_at}
use Rattle.mdv_name.specs.declared.slice_lines.SliceAt.{SliceAt}
use Rattle.mdv_standing.specs.Matching.{spot_in}
use Rattle.mdv_standing.proofs.Named.{line_found}
use Rattle.mdv_store.specs.Below.{Geometry, Identity, IsSound, Key, Replica, SliceLine, Spot, lists_of_spots, place_on, same_spot, site_of, spot_on}
use Rattle.mdv_store.specs.Create.{seats_asked, seats_on, table_of}
use Rattle.mdv_store.specs.Seats.{active_of, replicas_of, spot_of, spots_of}
use Rattle.mdv_store.specs.declared.seats.Seat.{Seat}
use Rattle.mdv_votes.proofs.Meeting.{same_self}
use Rattle.mdv_votes.specs.Spots.{is_in}
use Rattle.mdv_store.proofs.Sitting.{first_or_behind}

-- One list behind another.
pub spots_more : (xs ys : List Seat) → spots_of (xs ++ ys) ≡ spots_of xs ++ spots_of ys
spots_more [] ys = refl
spots_more (s ∷ xs) ys = by s.replica (spots_more xs ys) where
  by : (o : Option Replica) → spots_of (xs ++ ys) ≡ spots_of xs ++ spots_of ys → map spot_of (cons_option o (replicas_of (xs ++ ys))) ≡ map spot_of (cons_option o (replicas_of xs)) ++ spots_of ys
  by None rest = rest
  by (Some r) rest = ap (λ (l : List Spot). spot_of r ∷ l) rest

active_more : (xs ys : List Seat) → active_of (xs ++ ys) ≡ active_of xs + active_of ys
active_more [] ys = omega arith
active_more (s ∷ xs) ys = by s.replica (active_more xs ys) where
  by : (o : Option Replica) → active_of (xs ++ ys) ≡ active_of xs + active_of ys → length (cons_option o (replicas_of (xs ++ ys))) ≡ length (cons_option o (replicas_of xs)) + active_of ys
  by None rest = rest
  by (Some r) rest = omega (arith, rest)

places_more : (xs ys : List Seat) → map (λ (s : Seat). s.place) (xs ++ ys) ≡ map (λ (s : Seat). s.place) xs ++ map (λ (s : Seat). s.place) ys
places_more [] ys = refl
places_more (s ∷ xs) ys = ap (λ (l : List Place). s.place ∷ l) (places_more xs ys)

pub in_left : (xs ys : List Spot) (p : Spot) → is_in xs p ≡ true → is_in (xs ++ ys) p ≡ true
in_left [] ys p is = absurd (cc (is))
in_left (x ∷ xs) ys p is = by (same_spot x p) (λ has. in_left xs ys p has) is where
  by : (b : Bool) → (is_in xs p ≡ true → is_in (xs ++ ys) p ≡ true) → b || is_in xs p ≡ true → b || is_in (xs ++ ys) p ≡ true
  by true rest is = refl
  by false rest is = rest is

pub in_right : (xs ys : List Spot) (p : Spot) → is_in ys p ≡ true → is_in (xs ++ ys) p ≡ true
in_right [] ys p is = is
in_right (x ∷ xs) ys p is = or_right (same_spot x p) (is_in (xs ++ ys) p) (in_right xs ys p is)

module _ (key : Key) (identity : Identity) (count blocks : ℕ) where
  abbrev On : SliceLine → List Seat
  On line = seats_on key identity line count blocks 0 count

  pub on_length : (line : SliceLine) (k n : ℕ) → length (seats_on key identity line count blocks k n) ≡ n
  on_length line k zero = refl
  on_length line k (suc n) = ap (λ (m : ℕ). suc m) (on_length line (k + 1) n)

  on_active : (line : SliceLine) (k n : ℕ) → active_of (seats_on key identity line count blocks k n) ≡ n
  on_active line k zero = refl
  on_active line k (suc n) = ap (λ (m : ℕ). suc m) (on_active line (k + 1) n)

  -- as many as are asked for, all of them active
  pub asked_length : (lines : List SliceLine) → length (seats_asked key identity lines count blocks) ≡ length lines * count
  asked_length [] = omega arith
  asked_length (line ∷ lines) = (let rest = asked_length lines in let here = on_length line 0 count in let all = length-append (On line) (seats_asked key identity lines count blocks) in omega (arith, all, rest, here))

  pub asked_active : (lines : List SliceLine) → active_of (seats_asked key identity lines count blocks) ≡ length lines * count
  asked_active [] = omega arith
  asked_active (line ∷ lines) = (let rest = asked_active lines in let here = on_active line 0 count in let all = active_more (On line) (seats_asked key identity lines count blocks) in omega (arith, all, rest, here))

  -- a spot that is asked for is one of them
  in_from : (line : SliceLine) (k n j : ℕ) → k ≤ j → j < k + n → is_in (spots_of (seats_on key identity line count blocks k n)) (spot_on line blocks j) ≡ true
  in_from line k zero j up lt = absurd (omega (arith, up, lt))
  in_from line k (suc n) j up lt = elim (at_or_behind up) [
    | inl here ↦ subst (λ (i : ℕ). is_in (spots_of (seats_on key identity line count blocks k (suc n))) (spot_on line blocks i) ≡ true) here (or_left (same_spot (spot_on line blocks k) (spot_on line blocks k)) (is_in (spots_of (seats_on key identity line count blocks (k + 1) n)) (spot_on line blocks k)) (same_self (spot_on line blocks k)))
    | inr behind ↦ or_right (same_spot (spot_on line blocks k) (spot_on line blocks j)) (is_in (spots_of (seats_on key identity line count blocks (k + 1) n)) (spot_on line blocks j)) (in_from line (k + 1) n j behind (omega (arith, lt)))
  ]
    where
      at_or_behind : k ≤ j → (k ≡ j) ⊎ (k + 1 ≤ j)
      at_or_behind up = grind (arith, up)

  pub in_asked : (lines : List SliceLine) (line : SliceLine) (j : ℕ) → Contains lines line → j < count → is_in (spots_of (seats_asked key identity lines count blocks)) (spot_on line blocks j) ≡ true
  in_asked [] line j has lt = absurd (omega (arith, has.1))
  in_asked (x ∷ lines) line j has lt =
      subst (λ (l : List Spot). is_in l (spot_on line blocks j) ≡ true) (sym (spots_more (On x) (seats_asked key identity lines count blocks)))
      (elim (first_or_behind x line lines has) [
        | inl here ↦ in_left (spots_of (On x)) (spots_of (seats_asked key identity lines count blocks)) (spot_on line blocks j)
            (subst (λ (l : SliceLine). is_in (spots_of (On x)) (spot_on l blocks j) ≡ true) here (in_from x 0 count j (omega arith) (omega (arith, lt))))
        | inr behind ↦ in_right (spots_of (On x)) (spots_of (seats_asked key identity lines count blocks)) (spot_on line blocks j) (in_asked lines line j behind lt)
      ])

-- Where a slice of a site lies.
module _ (g : Geometry) (sound : IsSound g) (key : Key) where
  module _ (identity : Identity) (count blocks : ℕ) where
    abbrev spot_at : Place → Spot
    spot_at place = spot_in (slice_at (site_of g key).lines place.slice) place

    abbrev places : List Seat → List Place
    places seats = map (λ (s : Seat). s.place) seats

    on_named : (line : SliceLine) → Contains (site_of g key).lines line → (k n : ℕ) → map spot_at (places (seats_on key identity line count blocks k n)) ≡ spots_of (seats_on key identity line count blocks k n)
    on_named line has k zero = refl
    on_named line has k (suc n) =
        let here : spot_at (place_on line blocks count k).place ≡ spot_on line blocks k = ap (λ (o : Option SliceAt). spot_in o (place_on line blocks count k).place) (line_found g sound key line has) in
        let rest = on_named line has (k + 1) n in
        λ i. here i ∷ rest i

    map_more : (xs ys : List Place) → map spot_at (xs ++ ys) ≡ map spot_at xs ++ map spot_at ys
    map_more [] ys = refl
    map_more (x ∷ xs) ys = ap (λ (l : List Spot). spot_at x ∷ l) (map_more xs ys)

    -- the list of the table has just these spots
    pub asked_named : (lines : List SliceLine) → ((line : SliceLine) → Contains lines line → Contains (site_of g key).lines line)
        → (lists_of_spots (site_of g key) (table_of (seats_asked key identity lines count blocks)).plan.lists).first ≡ spots_of (seats_asked key identity lines count blocks)
    asked_named [] within = refl
    asked_named (line ∷ lines) within =
        let on = seats_on key identity line count blocks 0 count in
        let behind = seats_asked key identity lines count blocks in
        let here = on_named line (within line (0, omega arith, refl)) 0 count in
        let rest = asked_named lines (λ l has. within l (suc has.0, omega (arith, has.1), has.2)) in
        ap (λ (l : List Place). map spot_at l) (places_more on behind) ∙ map_more (places on) (places behind) ∙ (λ i. here i ++ rest i) ∙ sym (spots_more on behind)
