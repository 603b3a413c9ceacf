-- The places that are added, and their seats.
use Rattle.std.proofs.Common.{◌≡◌, ◌⊎◌, inl, inr, ◌+◌, ◌*◌, ℕ, zero, suc, List, [], ◌∷◌, ◌++◌, map, Contains, Option, Some, None, refl, sym, ◌∙◌, ap, subst, arith}
use Rattle.std.proofs.lemmas.List.{map-append}
use Rattle.std.proofs.lemmas.List.Elements.{Contains-append_cases}
use Rattle.std.specs.List.{cons_option, list_any}
use Rattle.std.specs.Prelude.{◌||◌, Bool}
use Rattle.mdv_acts.proofs.Members.{contains_behind, contains_first, first_or_behind}
use Rattle.mdv_acts.specs.Asked.{AreAsked}
use Rattle.mdv_store.specs.Create.{seats_on}
use Rattle.mdv_store.proofs.Seated.{replica_is, seats_laid, seats_of_table}
use Rattle.mdv_store.proofs.Sitting.{replica_of, seat_of}
use Rattle.mdv_store.specs.Seats.{IsLaid, replica_area, spot_of}
use Rattle.mdv_survey.specs.Newest.{HasNoneAbove}
use Rattle.mdv_replica.specs.declared.replica.Slot.TheVariants.{First, Second}
use Rattle.mdv_places.specs.Asked.{claimed, claims, places_asked, places_from, places_on}
use Rattle.mdv_places.specs.Below.{AreLaid, Identity, Key, Mark, Place, Replica, Seat, SliceLine, Spot, at_of, replicas_of, seats_area, seats_asked, spots_of}
use Rattle.mdv_store.proofs.Passes.{unmapped}

abbrev pub place_of_seat : Seat → Place
place_of_seat s = s.place

module _ (key : Key) (identity : Identity) (count blocks : ℕ) where
  on_places : (line : SliceLine) (k n : ℕ) → map place_of_seat (seats_on key identity line count blocks k n) ≡ places_from line.name blocks k n
  on_places line k zero = refl
  on_places line k (suc n) = ap (λ (l : List Place). (record { slice = line.name; start = 16 + k * blocks; blocks = blocks }) ∷ l) (on_places line (k + 1) n)

  pub asked_places : (lines : List SliceLine) → map place_of_seat (seats_asked key identity lines count blocks) ≡ places_asked lines count blocks
  asked_places [] = refl
  asked_places (line ∷ lines) =
      map-append place_of_seat (seats_on key identity line count blocks 0 count) (seats_asked key identity lines count blocks)
      ∙ ap (λ (l : List Place). l ++ map place_of_seat (seats_asked key identity lines count blocks)) (on_places line 0 count) ∙ ap (λ (l : List Place). places_on count blocks line.name ++ l) (asked_places lines)

-- each lies on its slice
module _ (count blocks : ℕ) where
  from_slice : (line : SliceLine) (k n : ℕ) (p : Place) → Contains (places_from line.name blocks k n) p → p.slice ≡ line.name
  from_slice line k zero p has = absurd (omega (arith, has.1))
  from_slice line k (suc n) p has = elim (first_or_behind (record { slice = line.name; start = 16 + k * blocks; blocks = blocks }) p (places_from line.name blocks (k + 1) n) has) [
    | inl here ↦ ap (λ (q : Place). q.slice) (sym here)
    | inr behind ↦ from_slice line (k + 1) n p behind
  ]

  pub added_slice : (lines : List SliceLine) (p : Place) → Contains (places_asked lines count blocks) p → (line : SliceLine) × Contains lines line × (p.slice ≡ line.name)
  added_slice [] p has = absurd (omega (arith, has.1))
  added_slice (line ∷ lines) p has = elim (Contains-append_cases (places_on count blocks line.name) (places_asked lines count blocks) p has) [
    | inl here ↦ (line, contains_first line lines, from_slice line 0 count p here)
    | inr behind ↦ (let rest = added_slice lines p behind in (rest.0, contains_behind line rest.0 lines rest.1, rest.2))
  ]

-- the claim changes no place
pub claims_places : (number : ℕ) (seats : List Seat) → map place_of_seat (map (claims number) seats) ≡ map place_of_seat seats
claims_places number [] = refl
claims_places number (s ∷ ss) = ap (λ (l : List Place). s.place ∷ l) (claims_places number ss)

-- nor where its replica lies
pub claims_spots : (number : ℕ) (seats : List Seat) → spots_of (map (claims number) seats) ≡ spots_of seats
claims_spots number [] = refl
claims_spots number (s ∷ ss) = by s.replica (claims_spots number ss) where
  by : (o : Option Replica) → spots_of (map (claims number) ss) ≡ spots_of ss → map spot_of (cons_option (claimed number o) (replicas_of (map (claims number) ss))) ≡ map spot_of (cons_option o (replicas_of ss))
  by None rest = rest
  by (Some r) rest = ap (λ (l : List Spot). spot_of r ∷ l) rest

pub claims_area : (number : ℕ) (seats : List Seat) (drive block : ℕ) → seats_area (map (claims number) seats) drive block ≡ seats_area seats drive block
claims_area number [] drive block = refl
claims_area number (s ∷ ss) drive block = by s.replica (claims_area number ss drive block) where
  by : (o : Option Replica) → seats_area (map (claims number) ss) drive block ≡ seats_area ss drive block
      → list_any (λ (r : Replica). replica_area r drive block) (cons_option (claimed number o) (replicas_of (map (claims number) ss))) ≡ list_any (λ (r : Replica). replica_area r drive block) (cons_option o (replicas_of ss))
  by None rest = rest
  by (Some r) rest = ap (λ (b : Bool). replica_area r drive block || b) rest

-- a replica of some seats and of more is one of the ones or of the others
pub either_replica : (xs ys : List Seat) (r : Replica) → Contains (replicas_of (xs ++ ys)) r → Contains (replicas_of xs) r ⊎ Contains (replicas_of ys) r
either_replica xs ys r has =
    let s = seat_of (xs ++ ys) r has in
    elim (Contains-append_cases xs ys s.0 s.1) [
      | inl front ↦ inl (replica_of xs s.0 r front s.2)
      | inr behind ↦ inr (replica_of ys s.0 r behind s.2)
    ]

-- a replica with the claim is one of these
claimed_some : (number : ℕ) (o : Option Replica) (r : Replica) → claimed number o ≡ Some r → (a : Replica) × (o ≡ Some a) × (r ≡ record a { head = record a.head { claim = number } })
claimed_some number None r is = absurd (cc (is))
claimed_some number (Some a) r is = (a, refl, cc (is))

pub claims_replica : (number : ℕ) (seats : List Seat) (r : Replica) → Contains (replicas_of (map (claims number) seats)) r → (a : Replica) × Contains (replicas_of seats) a × (r ≡ record a { head = record a.head { claim = number } })
claims_replica number seats r has =
    let s = seat_of (map (claims number) seats) r has in
    let t = unmapped (claims number) seats s.0 s.1 in
    let one = claimed_some number t.0.replica r (ap (λ (x : Seat). x.replica) t.2 ∙ s.2) in
    (one.0, replica_of seats t.0 one.0 t.1 one.1, one.2)

module _ (key : Key) (identity : Identity) (count blocks : ℕ) (lines : List SliceLine) (number : ℕ) where
  abbrev more : List Seat
  more = map (claims number) (seats_asked key identity lines count blocks)

  pub more_above : (mark : Mark) (r : Replica) → Contains (replicas_of more) r → HasNoneAbove mark r.head
  more_above mark r has First m bytes gate below =
      let one = claims_replica number (seats_asked key identity lines count blocks) r has in
      let is = replica_is key identity count blocks lines one.0 one.1 in
      absurd (let first = ap (λ (x : Replica). x.head.first) one.2 ∙ ap (λ (x : Replica). x.head.first) is.is in cc (first, gate))
  more_above mark r has Second m bytes gate below =
      let one = claims_replica number (seats_asked key identity lines count blocks) r has in
      let is = replica_is key identity count blocks lines one.0 one.1 in
      absurd (let second = ap (λ (x : Replica). x.head.second) one.2 ∙ ap (λ (x : Replica). x.head.second) is.is in cc (second, gate))

  module _ (sizes : List ℕ) (asked : AreAsked sizes lines count blocks) where
    pub more_laid : AreLaid sizes more
    more_laid r has =
        let one = claims_replica number (seats_asked key identity lines count blocks) r has in
        let laid = seats_laid key identity count blocks lines sizes asked one.0 one.1 in
        subst (IsLaid sizes) (sym one.2) (record { placed = laid.placed; short = laid.short })

    pub more_at : (s : Seat) (r : Replica) → Contains more s → s.replica ≡ Some r → (at_of r).place ≡ s.place
    more_at s r has is =
        let t = unmapped (claims number) (seats_asked key identity lines count blocks) s has in
        let one = claimed_some number t.0.replica r (ap (λ (x : Seat). x.replica) t.2 ∙ is) in
        ap (λ (x : Replica). (at_of x).place) one.2 ∙ (seats_of_table key identity count blocks lines sizes asked).at t.0 one.0 t.1 one.1 ∙ ap place_of_seat t.2
