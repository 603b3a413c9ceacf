-- How all databases go on while the places of an open one change.
use Rattle.std.specs.Prelude.{◌≡◌, ◌⊎◌, Bool, List, [], Some, Contains, Ok, Err}
use Rattle.mdv_places.specs.Asked.{Adds, Asks, Drops, KeepsFirst, dropped}
use Rattle.mdv_places.specs.Changing.{both_of}
use Rattle.mdv_places.specs.Going.{IsMoving}
use Rattle.mdv_places.specs.Moments.{AreOfSite, IsChangeOf, IsFront, IsLogOf, MoveEnds, MoveMoment}
use Rattle.mdv_places.specs.declared.changing.PlacesFault.TheVariants as unmoved
use Rattle.mdv_store.specs.Commit.{AnyLog, IsCommittedTo}
use Rattle.mdv_config.specs.Lists.{last_of}
use Rattle.mdv_databases.specs.Below.{Change, Database, Geometry, IsOfGeometry, Key, Opened, Place, SliceLine, Tale, asks_of, site_of}
use Rattle.mdv_databases.specs.Creating.{MayBeTakenAt}
use Rattle.mdv_databases.specs.Going.{GoOnBy, IsOpenIn, with_events}
use Rattle.mdv_databases.specs.Standing.{Stand}

-- the slice gets more places
abbrev pub GetsMore : Asks → SliceLine → Type 0
GetsMore (Adds lines count blocks) line = Contains lines line
GetsMore (Drops slices) line = ⊥
GetsMore KeepsFirst line = ⊥

-- a place of the slice is dropped
pub record HasDropped (g : Geometry) (o : Opened) (asked : Asks) (line : SliceLine) : Type 0 where
  pub place : Place
  pub one_of : Contains (dropped asked (last_of o.table.plan.lists)) place
  pub on : Contains (site_of g o.key).lines line
  pub slice : place.slice ≡ line.name

-- the boots of the databases of other keys don't look on the slice, or what lies there of them may be taken
abbrev pub MayBeTakenOfOthers : Geometry → List Database → Key → SliceLine → Tale → Type 0
MayBeTakenOfOthers g all key line t = (d : Database) → Contains all d → (d.key ≡ key → ⊥) → (Contains (site_of g d.key).lines line → ⊥) ⊎ MayBeTakenAt g d line t

-- Places of a database that is open among all may change so: on each slice that gets more places, or loses some, what is of other keys may be taken; the
-- table with both lists is one of the table of drives, and comes of the open one by this change.
pub record IsMoveIn (g : Geometry) (all : List Database) (o : Opened) (asked : Asks) (change : Change) (t : Tale) : Type 0 where
  pub stand : Stand g all t
  pub is_open : IsOpenIn g o all t
  pub others : (line : SliceLine) → GetsMore asked line ⊎ HasDropped g o asked line → MayBeTakenOfOthers g all o.key line t
  pub of_geometry : IsOfGeometry g (both_of o asked).table
  pub sites : AreOfSite g o asked
  pub front : IsFront asked (last_of o.table.plan.lists)
  pub made : IsChangeOf g o asked change

-- in the end the log's newest table is that of the open database, whose list is the new one alone, and its `ok` may be told
pub record IsMovedIn (g : Geometry) (all : List Database) (old new : Opened) (asked : Asks) (change : Change) (u : Tale) : Type 0 where
  pub goes : GoOnBy (IsMoving asked) g all old.key old.identity (asks_of (Some change)) (IsCommittedTo g new (Some change)) u
  pub is_open : IsOpenIn g new (with_events old.key goes.es all) u

-- where a place couldn't be formatted no change was begun, and the database is open as before
pub record IsUnmovedIn (g : Geometry) (all : List Database) (o : Opened) (asked : Asks) (u : Tale) : Type 0 where
  pub goes : GoOnBy (IsMoving asked) g all o.key o.identity [] (IsLogOf g o) u
  pub is_open : IsOpenIn g o (with_events o.key goes.es all) u

pub record MovesGo : Type 0 where
  -- at each moment of a change of places all databases go on, by that change alone
  pub moments : (g : Geometry) (all : List Database) (o : Opened) (asked : Asks) (change : Change) (t m : Tale) → IsMoveIn g all o asked change t → MoveMoment g o asked t m
      → GoOnBy (IsMoving asked) g all o.key o.identity (asks_of (Some change)) AnyLog m
  -- and once it is done, whether each dropped place is blank or not; and where it failed
  pub ends : (g : Geometry) (all : List Database) (old new : Opened) (asked : Asks) (change : Change) (clean : Bool) (t u : Tale) → IsMoveIn g all old asked change t → MoveMoment g old asked t u
      → MoveEnds g old new asked (Ok clean) t u → new.key ≡ old.key → new.identity ≡ old.identity → IsMovedIn g all old new asked change u
  pub failed : (g : Geometry) (all : List Database) (old new : Opened) (asked : Asks) (change : Change) (t u : Tale) → IsMoveIn g all old asked change t → MoveMoment g old asked t u
      → MoveEnds g old new asked (Err unmoved.Failed) t u → IsUnmovedIn g all old asked u
