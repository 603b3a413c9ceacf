-- An open database, and what the drives have of it.
use Rattle.std.specs.Prelude.{◌≡◌, ◌<◌, ◌≤◌, ◌*◌, ◌^◌, ℕ, List, length, map, Contains, Option, None, Some}
pub use Rattle.mdv_encoding.specs.Room.{least_room}
use Rattle.mdv_store.specs.Below.{Geometry, HasNoneAbove, Identity, IsOfGeometry, IsSound, Key, Mark, Replica, Table, Tale, at_of, last_of, places_of, site_of}
use Rattle.mdv_store.specs.Seats.{AreHeld, AreNamed, AreShown, replicas_of}
use Rattle.mdv_store.specs.Settled.{first_room}
use Rattle.mdv_store.specs.Shares.{short_of}
use Rattle.mdv_store.specs.declared.seats.Need.TheVariants.{Half}
use Rattle.mdv_store.specs.declared.seats.Seat.{Seat}
use Rattle.mdv_store.specs.declared.seats.Share.{Share}

-- whose database it is, the identity of its creation, the mark and the table, and the listed places
pub record Opened : Type 0 where
  pub key : Key
  pub identity : Identity
  pub mark : Mark
  pub table : Table
  pub seats : List Seat

-- The share of the first list of its table of which fewer than half is active; there is none where at least half of each list is.
abbrev pub shortage : Opened → Option Share
shortage o = short_of Half o.seats o.table.plan.lists

-- the seats are the table's listed places, in their order: those of the first list, and behind them those that the second has beside it
pub record AreSeatsOf (table : Table) (seats : List Seat) : Type 0 where
  pub places : map (λ (s : Seat). s.place) seats ≡ places_of table.plan.lists
  pub some : 1 ≤ length seats
  pub few : length seats ≤ 100
  pub at : (s : Seat) (r : Replica) → Contains seats s → s.replica ≡ Some r → (at_of r).place ≡ s.place

-- The numbers of an open database are in their limits, it has room for the longest text that its smallest slot takes, also once its first place is the only one, and as long as half of each of its
-- lists is active no active place has a greater mark.
pub record IsOpen (o : Opened) (room : ℕ) : Type 0 where
  pub boot : o.mark.boot < 2 ^ 63
  pub count : o.mark.count < 2 ^ 63
  pub seats : AreSeatsOf o.table o.seats
  pub whole : least_room (places_of o.table.plan.lists) ≤ room
  pub first : first_room (last_of o.table.plan.lists) ≤ room
  pub short : 512 * room < 2 ^ 32
  pub marks : shortage o ≡ None → (r : Replica) → Contains (replicas_of o.seats) r → HasNoneAbove o.mark r.head

-- Whatever a crash leaves, each active place has its replica, which shows the table as its newest one under the mark; and the table lists the places.
pub record IsOpenedAt (g : Geometry) (o : Opened) (t : Tale) : Type 0 where
  pub sound : IsSound g
  pub of_geometry : IsOfGeometry g o.table
  pub held : AreHeld g o.key o.identity o.seats t
  pub named : AreNamed (site_of g o.key) o.table o.seats
  pub shown : AreShown g o.seats o.mark o.table t
