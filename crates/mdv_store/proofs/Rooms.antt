-- The smallest slot of some places, and of the places of some seats.
use Rattle.std.proofs.Common.{◌≤◌, ◌*◌, ℕ, List, [], ◌∷◌, Contains, length, map, ap, arith, inl, inr}
use Rattle.mdv_encoding.proofs.Rooms.{room_most}
use Rattle.mdv_store.specs.Below.{Place, Table, places_of, slot_blocks}
use Rattle.mdv_store.specs.Opened.{AreSeatsOf, least_room}
use Rattle.mdv_store.specs.Seats.{HaveRoom}
use Rattle.mdv_store.specs.Settled.{first_room}
use Rattle.mdv_store.specs.Text.{blocks_for}
use Rattle.mdv_store.specs.declared.seats.Seat.{Seat}
use Rattle.mdv_store.proofs.Sitting.{first_or_behind, seat_of}

abbrev pub room_at : List Seat → ℕ
room_at seats = least_room (map (λ (s : Seat). s.place) seats)

-- no slot is smaller
pub room_least : (seats : List Seat) (s : Seat) → Contains seats s → room_at seats ≤ slot_blocks s.place.blocks
room_least [] s has = absurd (omega (arith, has.1))
room_least (x ∷ xs) s has = elim (first_or_behind x s xs has) [
  | inl here ↦ omega (arith, ap (λ (t : Seat). slot_blocks t.place.blocks) here)
  | inr behind ↦ omega (arith, room_least xs s behind)
]

-- a text that the smallest slot takes has room in each
pub have_room : (table : Table) (seats : List Seat) (bytes : ℕ) → AreSeatsOf table seats → 1 ≤ bytes → bytes ≤ 512 * least_room (places_of table.plan.lists) → HaveRoom (blocks_for bytes) seats
have_room table seats bytes are some fits r has =
    let seat = seat_of seats r has in
    let same = ap (λ (p : Place). slot_blocks p.blocks) (are.at seat.0 r seat.1 seat.2) in
    let least = room_least seats seat.0 seat.1 in
    let room = ap least_room are.places in
    omega arith

-- the first slot is no longer than that of the longest place
pub first_most : (places : List Place) → first_room places ≤ 4094
first_most [] = omega arith
first_most (p ∷ places) = omega arith

-- nor is the smallest one longer than the first
pub first_least : (places : List Place) → 1 ≤ length places → least_room places ≤ first_room places
first_least [] some = absurd (omega (arith, some))
first_least (p ∷ places) some = omega (arith, room_most places)
