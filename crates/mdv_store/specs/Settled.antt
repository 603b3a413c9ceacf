-- A table with two lists of places is written a second time, with its new list alone, to the places of that list: the change of places is over then.
use Rattle.std.specs.Prelude.{ℕ, min, List, [], ◌∷◌, map, Option, None, Some}
use Rattle.std.specs.List.{find}
use Rattle.mdv_plan.specs.declared.lists.Lists.{Lists}
use Rattle.mdv_plan.specs.declared.lists.Lists.TheVariants.{One, Two}
use Rattle.mdv_config.specs.Lists.{beside}
use Rattle.mdv_store.specs.Below.{Place, Replica, slot_blocks}
use Rattle.mdv_store.specs.Shares.{is_active_at}
use Rattle.mdv_store.specs.declared.seats.Seat.{Seat}

-- how many times: once, where the table has two lists
abbrev pub settles : Lists → ℕ
settles (One list) = 0
settles (Two old new) = 1

-- and to which places
abbrev pub again_of : Lists → List Place
again_of (One list) = []
again_of (Two old new) = new

-- those of the old list that the new one lacks: they are left then
abbrev pub gone_of : Lists → List Place
gone_of (One list) = []
gone_of (Two old new) = beside new old

-- how many blocks a slot of the first of these places has; one of the longest place has 4094
abbrev pub first_room : List Place → ℕ
first_room [] = 0
first_room (p ∷ places) = min (slot_blocks p.blocks) 4094

abbrev pub replica_in : Option Seat → Option Replica
replica_in None = None
replica_in (Some s) = s.replica

-- the replica of the place's first seat that is active, where there is one
abbrev pub replica_for : List Seat → Place → Option Replica
replica_for seats p = replica_in (find (is_active_at p) seats)

abbrev pub seat_now : List Seat → Place → Seat
seat_now seats p = record { place = p; replica = replica_for seats p }

-- these places, each with its replica as the seats have it
abbrev pub seats_now : List Seat → List Place → List Seat
seats_now seats places = map (seat_now seats) places
