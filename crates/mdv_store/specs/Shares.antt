-- Whether enough of each list of a table is active.
use Rattle.std.specs.Prelude.{◌*◌, ◌&&◌, Bool, List, length, count_by, is_some, nat_le, nat_lt, Option, None, Some, if◌then◌else◌}
use Rattle.std.specs.List.{list_any}
use Rattle.std.specs.Option.{option_or}
use Rattle.mdv_config.specs.Lists.{same_place}
use Rattle.mdv_plan.specs.declared.lists.Lists.{Lists}
use Rattle.mdv_plan.specs.declared.lists.Lists.TheVariants.{One, Two}
use Rattle.mdv_store.specs.Below.{Place}
use Rattle.mdv_store.specs.declared.seats.Need.{Need}
use Rattle.mdv_store.specs.declared.seats.Need.TheVariants.{Half, More}
use Rattle.mdv_store.specs.declared.seats.Seat.{Seat}
use Rattle.mdv_store.specs.declared.seats.Share.{Share}

abbrev pub is_active : Seat → Bool
is_active s = is_some s.replica

abbrev pub is_seat_at : Place → Seat → Bool
is_seat_at place s = same_place s.place place

-- the seat is the place's, and active
abbrev pub is_active_at : Place → Seat → Bool
is_active_at place s = is_seat_at place s && is_active s

-- one of the seats is so
abbrev pub has_active : List Seat → Place → Bool
has_active seats place = list_any (is_active_at place) seats

-- of a list so many places are active, and so many it has
abbrev pub share_in : List Seat → List Place → Share
share_in seats list = record { active = count_by (has_active seats) list; listed = length list }

-- at least half of the list is active, or more than half
abbrev pub suffices : Need → Share → Bool
suffices Half share = nat_le share.listed (2 * share.active)
suffices More share = nat_lt share.listed (2 * share.active)

-- the list's share, where it doesn't suffice
abbrev pub short_in : Need → List Seat → List Place → Option Share
short_in need seats list = if suffices need (share_in seats list) then None else Some (share_in seats list)

-- that of the first list of a table of which it doesn't, the old one first; none where of each list enough is active
abbrev pub short_of : Need → List Seat → Lists → Option Share
short_of need seats (One list) = short_in need seats list
short_of need seats (Two old new) = option_or (short_in need seats old) (short_in need seats new)
