-- How a boot finishes a change of places: what it wrote anew is committed with the new list alone.
use Rattle.std.specs.Prelude.{◌≡◌, ◌≤◌, ◌<◌, ◌+◌, ◌*◌, ◌^◌, ◌==◌, ◌&&◌, ℕ, Bool, false, List, length, map, Contains, MatchOption}
use Rattle.mdv_store.specs.Below.{Ghosts, HasNoneAbove, One, Replica, last_of, settled}
use Rattle.mdv_store.specs.Commit.{next_mark}
use Rattle.mdv_store.specs.Opened.{AreSeatsOf, Opened, least_room}
use Rattle.mdv_store.specs.Seats.{HaveRoom, active_of, replicas_of}
use Rattle.mdv_store.specs.Settled.{first_room, seats_now}
use Rattle.mdv_store.specs.Shares.{short_of}
use Rattle.mdv_store.specs.Text.{blocks_for}
use Rattle.mdv_store.specs.Writing.{WroteAll, text_size}
use Rattle.mdv_store.specs.declared.booting.BootEnd.TheVariants as end
use Rattle.mdv_store.specs.declared.booting.Taken.{Taken}
use Rattle.mdv_store.specs.declared.seats.Need.{Need}
use Rattle.mdv_store.specs.declared.seats.Seat.{Seat}
use Rattle.mdv_store.specs.declared.settling.Draft.{Draft}

-- the open database that it is
abbrev pub opened_of : Draft → Opened
opened_of d = record { key = d.key; identity = d.identity; mark = d.mark; table = d.table; seats = d.seats }

-- the places of the list that comes, each with its replica as it is then
abbrev pub last_seats : Draft → List Seat
last_seats d = seats_now d.seats (last_of d.table.plan.lists)

-- A table that was written anew, and the places of the list that comes: enough of each list took it, no active place has a greater mark, and there is room for
-- the text that is written next, and for those that come.
pub record IsDraft (o : Opened) (room : ℕ) (next : List Seat) : Type 0 where
  pub seats : AreSeatsOf o.table o.seats
  pub places : map (λ (s : Seat). s.place) next ≡ last_of o.table.plan.lists
  pub some : 1 ≤ length next
  pub few : length next ≤ 50
  pub boot : o.mark.boot < 2 ^ 63
  pub count : o.mark.count + 1 < 2 ^ 63
  pub marks : (r : Replica) → Contains (replicas_of o.seats) r → HasNoneAbove o.mark r.head
  pub in_seats : HaveRoom (blocks_for (text_size (settled o.table))) o.seats
  pub in_room : blocks_for (text_size (settled o.table)) ≤ room
  pub whole : least_room (last_of o.table.plan.lists) ≤ room
  pub first : first_room (last_of o.table.plan.lists) ≤ room
  pub short : 512 * room < 2 ^ 32

-- what is open then
abbrev pub settled_by : Draft → List Seat → Opened
settled_by d now = record { key = d.key; identity = d.identity; mark = next_mark d.mark; table = settled d.table; seats = now }

-- it is open so, if enough of the list took the table
abbrev pub CameOfSettling : Need → Draft → List Seat → Bool → Taken → Type 0
CameOfSettling need d now calm taken =
    MatchOption (short_of need now (One (last_of d.table.plan.lists)))
    (taken ≡ record { end = end.Adopted (settled_by d now); calm = calm && (active_of now == active_of (last_seats d)) })
    (λ share. taken ≡ record { end = end.Lost share.active share.listed; calm = false })

-- The table with its new list alone was written to the places of that list, under the next mark.
pub record WasSettled {S : Type 0} (shelf : Ghosts S) (old new : S) (need : Need) (d : Draft) (calm : Bool) (taken : Taken) : Type 0 where
  pub now : List Seat
  pub wrote : WroteAll shelf (next_mark d.mark) (settled d.table) old new (last_seats d) now
  pub came : CameOfSettling need d now calm taken
