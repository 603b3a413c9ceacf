-- The first spare on each slice, by the slice's number.
use Rattle.std.specs.Prelude.{◌≡◌, ℕ, Bool, ◌==◌, ◌&&◌, List, Option, None, Some, if◌then◌else◌}
use Rattle.std.specs.BTreeMap.{BTreeMap, get}
use Rattle.std.specs.List.{find}
use Rattle.std.specs.Option.{option_or}
use Rattle.std.specs.Ordering.{nat_cmp}
use Rattle.mdv_shape.specs.Below.{SliceName, Spare, SpareStatus, slice_code, state_in}
use Rattle.mdv_shape.specs.Seats.{is_in_use, is_room_for, same_seat, spare_key}

-- the first of this number
abbrev pub first_at : List Spare → ℕ → Option Spare
first_at ss k = find (λ t. spare_key t == k) ss

-- it is found by its number
abbrev pub AreFirsts : List Spare → BTreeMap ℕ Spare → Type 0
AreFirsts ss seats = (k : ℕ) → get nat_cmp seats k ≡ first_at ss k

-- with the spare, where there is none on its slice
abbrev pub HasSeat : BTreeMap ℕ Spare → Spare → BTreeMap ℕ Spare → Type 0
HasSeat m s n = (k : ℕ) → get nat_cmp n k ≡ option_or (get nat_cmp m k) (if spare_key s == k then Some s else None)

abbrev pub seat_in : BTreeMap ℕ Spare → SliceName → Option Spare
seat_in seats s = get nat_cmp seats (slice_code s)

abbrev pub is_as_seat : BTreeMap ℕ Spare → Spare → Bool
is_as_seat seats s = same_seat s (seat_in seats s.slice)

abbrev pub is_seat_in : BTreeMap ℕ Spare → List SpareStatus → Spare → Bool
is_seat_in seats states s = is_room_for s (seat_in seats s.slice) && is_in_use (state_in states s.slice)
