-- What a pass says that writes a table to each active place.
use Rattle.std.specs.Prelude.{Bool, ℕ, List, [], ◌++◌, Contains}
use Rattle.mdv_store.specs.Below.{Database, Event, Geometry, Identity, IsAbove, IsBodyOf, IsNewest, IsPart, IsSound, IsSynced, IsTaking, Key, Log, Mark, Replica, RestStands, Spot, Table, Tale, Traces, at_of, fills_at, site_of}
use Rattle.mdv_store.specs.Blank.{StayBlank}
use Rattle.mdv_store.specs.Passing.{IsPassing, Passed, slotting}
use Rattle.mdv_look.specs.Quiet.{IsQuiet}
use Rattle.mdv_store.specs.Records.{Spells}
use Rattle.mdv_store.specs.Seats.{AreHeld, AreNamed, AreShown, drive_of, replicas_of, seats_area, spots_of}
use Rattle.mdv_store.specs.declared.seats.Seat.{Seat}

-- some of the writings at these places, in their order
abbrev pub AreFills : List Spot → List Event → Type 0
AreFills places es = IsPart es (fills_at places)

-- the body fits a slot of each replica, and is the record of this table
abbrev pub AreBodies : Geometry → List Seat → Mark → ℕ → List (List ℕ) → Table → Type 0
AreBodies g seats mark bytes body table = (r : Replica) → Contains (replicas_of seats) r → IsBodyOf (Spells g) (at_of r) mark bytes body table

-- the mark is above each one that the replicas have
abbrev pub AreAbove : Mark → List Seat → Type 0
AreAbove mark seats = (r : Replica) → Contains (replicas_of seats) r → IsAbove mark r.head

-- The newest table of the database's log is this one, under this mark, and is written to these replicas, whose places it lists.
pub record IsWritten (g : Geometry) (key : Key) (identity : Identity) (seats : List Seat) (mark : Mark) (bytes : ℕ) (body : List (List ℕ)) (log : Log) (table : Table) (t : Tale) : Type 0 where
  pub sound : IsSound g
  pub held : AreHeld g key identity seats t
  pub named : AreNamed (site_of g key) table seats
  pub bodies : AreBodies g seats mark bytes body table
  pub above : AreAbove mark seats
  pub newest : IsNewest log mark table

-- each world goes on by places that take the table, from those that had to these
abbrev pub FillsTrace : Geometry → Key → Identity → List Seat → Mark → Log → Bool → (before now : List Spot) → Tale → Tale → Type 0
FillsTrace g key identity seats mark log by_majority before now =
    Traces (Spells g) (site_of g key) identity log log (IsTaking by_majority mark before) (AreFills (spots_of seats)) (IsTaking by_majority mark now)

-- By each moment nothing was told, and nothing done but to these replicas, one by one in their order; each world of the database goes on by places that
-- take the table; all other databases stand; and those that show no table show none.
pub record SlottingMoment (seats : List Seat) (mark : Mark) (bytes : ℕ) (body : List (List ℕ)) (t m : Tale) : Type 0 where
  pub quiet : IsQuiet (seats_area seats) t m
  pub passing : IsPassing (slotting mark bytes body) (replicas_of seats) t m
  pub traces : (g : Geometry) (key : Key) (identity : Identity) (log : Log) (table : Table) (by_majority : Bool) (before : List Spot)
      → IsWritten g key identity seats mark bytes body log table t → FillsTrace g key identity seats mark log by_majority before before t m
  pub rest : (g : Geometry) (key : Key) (identity : Identity) (all : List Database) (table : Table) → IsSound g → AreHeld g key identity seats t → AreBodies g seats mark bytes body table
      → RestStands (Spells g) g all identity t → RestStands (Spells g) g all identity m
  pub blank : (g : Geometry) (key : Key) (identity : Identity) (table : Table) → IsSound g → AreHeld g key identity seats t → AreBodies g seats mark bytes body table → StayBlank g identity t m

-- In the end the places that are left took it, and their replicas are there and show it as their newest table; and what is read of their drives no crash
-- takes back.
pub record SlottingEnds (old new : List Seat) (mark : Mark) (bytes : ℕ) (body : List (List ℕ)) (t u : Tale) : Type 0 where
  pub passed : Passed (slotting mark bytes body) (replicas_of old) t (replicas_of new) [] u
  pub traces : (g : Geometry) (key : Key) (identity : Identity) (log : Log) (table : Table) (by_majority : Bool) (before : List Spot)
      → IsWritten g key identity old mark bytes body log table t → FillsTrace g key identity old mark log by_majority before (spots_of new ++ before) t u
  pub held : (g : Geometry) (key : Key) (identity : Identity) (table : Table) → IsSound g → AreHeld g key identity old t → AreBodies g old mark bytes body table → AreHeld g key identity new u
  pub shown : (g : Geometry) (key : Key) (identity : Identity) (table : Table) → IsSound g → AreHeld g key identity old t → AreBodies g old mark bytes body table → AreAbove mark old → AreShown g new mark table u
  pub synced : (r : Replica) → Contains (replicas_of new) r → IsSynced (drive_of r) t → IsSynced (drive_of r) u
