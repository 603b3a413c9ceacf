-- How all databases go on, by events of the current one of a key.
use Rattle.std.specs.Prelude.{◌≡◌, List, [], ◌∷◌, Option, Some}
use Rattle.mdv_store_law.specs.Log.{Adds, AreMade, ChangesAlone, Event, Extends, IsCourse, Issue, Lives, log_after_all}
use Rattle.mdv_databases.specs.Below.{Change, CoversWith, Database, Geometry, Identity, IsOpenedAt, IsReadyWith, Key, Log, Opened, Spells, Tale, current_of, log_of, site_of, spots_of, with_event}
use Rattle.mdv_databases.specs.Standing.{Stand}
use Rattle.mdv_store.specs.Commit.{IsNewestWritten}

-- the key's current database has this identity
pub record IsCurrentOf (all : List Database) (key : Key) (identity : Identity) : Type 0 where
  pub database : Database
  pub current : current_of all key ≡ Some database
  pub as_begun : database.identity ≡ identity

-- these events happen to its log, one behind another
abbrev pub with_events : Key → List Event → List Database → List Database
with_events key [] all = all
with_events key (e ∷ es) all = with_events key es (with_event key e all)

-- The log of the key's current database, which has this identity, goes on by events each of which may happen, and which issue such things alone, with nothing told and only such
-- changes begun as are asked; the drives stand with all databases then, and of that log this is known.
pub record GoOnBy (Which : Issue → Type 0) (g : Geometry) (all : List Database) (key : Key) (identity : Identity) (asks : List (Option Change)) (After : Log → Type 0) (m : Tale) : Type 0 where
  pub its : IsCurrentOf all key identity
  pub es : List Event
  pub course : IsCourse g (log_of all key) es
  pub come : Adds Which asks [] es
  pub stand : Stand g (with_events key es all) m
  pub after : After (log_after_all (log_of all key) es)

-- the same where changes alone are issued
abbrev pub GoOn : Geometry → List Database → Key → Identity → List (Option Change) → (Log → Type 0) → Tale → Type 0
GoOn = GoOnBy ChangesAlone

-- The database is open: it is its key's current one, and isn't about to be deleted; its log's newest table is the open one, whose write was answered, and whatever a crash leaves has that
-- at each active place, in worlds in which nothing is in work.
pub record IsOpenIn (g : Geometry) (o : Opened) (all : List Database) (t : Tale) : Type 0 where
  pub its : IsCurrentOf all o.key o.identity
  pub lives : (log_of all o.key).fate ≡ Lives
  pub newest : IsNewestWritten (log_of all o.key) o.mark o.table
  pub ready : CoversWith (Spells g) (site_of g o.key) o.identity (λ image w. IsReadyWith (spots_of o.seats) w) (log_of all o.key) t
  pub opened : IsOpenedAt g o t

-- The open table comes of these changes, one behind another, among which are all that were told.
pub record HasAllTold (g : Geometry) (o : Opened) (log : Log) : Type 0 where
  pub changes : List Change
  pub made : AreMade g changes o.table
  pub told : (told : List Change) → log.acknowledged ≡ Some told → Extends changes told
