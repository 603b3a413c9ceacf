-- How all databases go on while a table is committed to an open one.
use Rattle.std.specs.Prelude.{◌≡◌, List, Option}
use Rattle.mdv_store.specs.Commit.{AnyLog, CommitDone, CommitMoment, IsCommittedTo}
use Rattle.mdv_databases.specs.Below.{Change, Database, Geometry, IsMade, IsOfGeometry, Opened, Table, Tale, asks_of}
use Rattle.mdv_databases.specs.Going.{GoOn, IsOpenIn, with_events}
use Rattle.mdv_databases.specs.Standing.{Stand}

-- A table is committed that a change makes of the newest one, or that one again, to a database that is open among all.
pub record IsCommit (g : Geometry) (all : List Database) (o : Opened) (asked : Option Change) (next : Table) (t : Tale) : Type 0 where
  pub stand : Stand g all t
  pub is_open : IsOpenIn g o all t
  pub of_geometry : IsOfGeometry g next
  pub made : IsMade g asked o.table next

-- in the end the log has the table as its newest one, and the database is open with that
pub record IsCommittedIn (g : Geometry) (all : List Database) (old new : Opened) (asked : Option Change) (u : Tale) : Type 0 where
  pub goes : GoOn g all old.key old.identity (asks_of asked) (IsCommittedTo g new asked) u
  pub is_open : IsOpenIn g new (with_events old.key goes.es all) u

pub record CommitsGo : Type 0 where
  -- at each moment of a commit all databases go on, by the change alone
  pub moments : (g : Geometry) (all : List Database) (o : Opened) (asked : Option Change) (next : Table) (t m : Tale) → IsCommit g all o asked next t → CommitMoment o next t m
      → GoOn g all o.key o.identity (asks_of asked) AnyLog m
  -- and once it is done
  pub ends : (g : Geometry) (all : List Database) (old new : Opened) (asked : Option Change) (next : Table) (t u : Tale) → IsCommit g all old asked next t → CommitMoment old next t u → CommitDone old new next t u
      → new.key ≡ old.key → new.identity ≡ old.identity → IsCommittedIn g all old new asked u
