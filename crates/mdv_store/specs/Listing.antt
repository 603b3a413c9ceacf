-- How a second list of places comes beside the only one of an open database, and how it is the only one then.
use Rattle.std.specs.Prelude.{◌≡◌, ◌<◌, ◌≤◌, ◌+◌, ◌*◌, ◌^◌, ℕ, max, Bool, List, filter, length, map, Contains, Option, None, Some, Result, Ok, Err}
use Rattle.std.specs.List.{list_any}
pub use Rattle.mdv_config.specs.Lists.{with_lists}
use Rattle.mdv_encoding.specs.Room.{least_slot_bytes}
use Rattle.mdv_config.specs.Lists.{same_place}
use Rattle.mdv_store.specs.Below.{Ghosts, HasNoneAbove, Lists, One, Place, Replica, Two, last_of, places_of, record_bytes, settled}
use Rattle.mdv_store.specs.Commit.{next_mark}
use Rattle.mdv_store.specs.Opened.{AreSeatsOf, Opened, least_room, shortage}
use Rattle.mdv_store.specs.Seats.{replicas_of}
use Rattle.mdv_store.specs.Settled.{first_room}
use Rattle.mdv_store.specs.Writing.{WroteAll}
use Rattle.mdv_store.specs.declared.seats.Seat.{Seat}
use Rattle.mdv_store.specs.declared.seats.Share.{Share}
use Rattle.mdv_store.specs.declared.store.CommitFault.{CommitFault}
use Rattle.mdv_store.specs.declared.store.CommitFault.TheVariants as unwritten

-- the open database as it is about to be written, with these lists of its table, and these seats
abbrev pub listed_by : Opened → Lists → List Seat → Opened
listed_by o lists seats = record o { table = with_lists o.table lists; seats = seats }

-- A change of places may be written: at least half of each list is active, so no active place has a greater mark; the table with these lists fits the smallest slot of their places; and
-- the counts of two records are in their limit.
pub record MayList (o : Opened) (lists : Lists) : Type 0 where
  pub half : shortage o ≡ None
  pub seats : AreSeatsOf o.table o.seats
  pub above : (r : Replica) → Contains (replicas_of o.seats) r → HasNoneAbove o.mark r.head
  pub boot : o.mark.boot < 2 ^ 63
  pub fits : record_bytes (with_lists o.table lists) ≤ least_slot_bytes (places_of lists)
  pub small : o.mark.count + 2 < 2 ^ 63

-- the first cause why it may not
abbrev pub MayNotList : Opened → Lists → CommitFault → Type 0
MayNotList o lists (unwritten.Lost active listed) = shortage o ≡ Some (record { active = active; listed = listed })
MayNotList o lists (unwritten.TooLong fault) =
    (shortage o ≡ None) × (fault.bytes ≡ record_bytes (with_lists o.table lists)) × (fault.room ≡ least_slot_bytes (places_of lists)) × (fault.room < fault.bytes)
MayNotList o lists unwritten.Spent = (shortage o ≡ None) × (record_bytes (with_lists o.table lists) ≤ least_slot_bytes (places_of lists)) × (2 ^ 63 ≤ o.mark.count + 2)

-- the seats that are handed over, or those that there are
abbrev pub seats_then : Option (List Seat) → List Seat → List Seat
seats_then None seats = seats
seats_then (Some more) seats = more

-- A second list comes beside the only one, and these are the places of both: those that there are, and behind them some that were added, of which none has a
-- greater mark.
pub record IsSecond (o : Opened) (lists : Lists) (seats : List Seat) : Type 0 where
  pub may : MayList o lists
  pub old : List Place
  pub new : List Place
  pub one : o.table.plan.lists ≡ One old
  pub two : lists ≡ Two old new
  pub of : AreSeatsOf (with_lists o.table lists) seats
  pub marks : (r : Replica) → Contains (replicas_of seats) r → HasNoneAbove o.mark r.head

-- the seats of a list's places, in their order
abbrev pub is_listed_in : List Place → Seat → Bool
is_listed_in list s = list_any (same_place s.place) list

abbrev pub seats_in : List Place → List Seat → List Seat
seats_in list seats = filter (is_listed_in list) seats

-- The table with its second list alone may be written: at least half of each of its lists is active, the seats have the places of the second one in its order, its text fits
-- the smallest slot of these.
pub record IsLast (o : Opened) : Type 0 where
  pub half : shortage o ≡ None
  pub places : map (λ (s : Seat). s.place) (seats_in (last_of o.table.plan.lists) o.seats) ≡ last_of o.table.plan.lists
  pub some : 1 ≤ length (last_of o.table.plan.lists)
  pub fits : record_bytes (settled o.table) ≤ least_slot_bytes (last_of o.table.plan.lists)
  pub small : o.mark.count + 1 < 2 ^ 63

-- the open database as it is about to be written with its second list alone
abbrev pub last_by : Opened → Opened
last_by o = record o { table = settled o.table; seats = seats_in (last_of o.table.plan.lists) o.seats }

-- how many blocks the longest text may have that a store with these lists may have to spell
abbrev pub list_room : Lists → ℕ
list_room lists = max (least_room (places_of lists)) (first_room (last_of lists))

-- so many are enough
pub record IsRoomFor (lists : Lists) (blocks : ℕ) : Type 0 where
  pub enough : list_room lists ≤ blocks
  pub short : 512 * blocks < 2 ^ 32

-- there is room enough: the first place of the list that comes is no longer than that of the only one
abbrev pub IsRoomy : Opened → Lists → Type 0
IsRoomy o lists = first_room (last_of lists) ≤ first_room (last_of o.table.plan.lists)

-- The table of the one was written under the next mark to each of its active places, and what that left is the other: done, where of each list at least half took
-- it, and else lost, for good.
abbrev pub CameOfListing : Opened → Opened → Result (Unit {0}) Share → Type 0
CameOfListing before now (Ok done) = (shortage now ≡ None) × (now ≡ record before { mark = next_mark before.mark; seats = now.seats })
CameOfListing before now (Err share) = (shortage now ≡ Some share) × (now ≡ record before { seats = now.seats })

pub record WasListed {S : Type 0} (shelf : Ghosts S) (from to : S) (before now : Opened) (result : Result (Unit {0}) Share) : Type 0 where
  pub wrote : WroteAll shelf (next_mark before.mark) before.table from to before.seats now.seats
  pub came : CameOfListing before now result
