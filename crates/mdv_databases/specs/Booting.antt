-- How all databases go on while a key's database boots.
use Rattle.std.specs.Prelude.{◌≡◌, ◌⊎◌, ℕ, true, List, [], Contains, Some}
use Rattle.mdv_base.specs.DriveSet.{Drives}
use Rattle.mdv_store.specs.Boot.{IsShort}
use Rattle.mdv_store.specs.Booting.{BootMomentOn, HasShown, IsBootedOn, WasReadOn}
use Rattle.mdv_store.specs.Commit.{AnyLog, IsNewestWritten}
use Rattle.mdv_store.specs.declared.booting.BootEnd.{BootEnd}
use Rattle.mdv_store.specs.declared.booting.BootEnd.TheVariants as end
use Rattle.mdv_survey.specs.Choice.{needed_of}
use Rattle.mdv_survey.specs.Survey.{IsSurvey, IsSurveyOf, answers_in}
use Rattle.mdv_shown.specs.Choice.{Seen}
use Rattle.mdv_standing.specs.Below.{Mark}
use Rattle.mdv_standing.specs.Matching.{HasStaleVote}
use Rattle.mdv_store_law.specs.Log.{Lives, Over, Version}
use Rattle.mdv_config.specs.Lists.{first_of, last_of}
use Rattle.mdv_survey.specs.declared.replica.Newest.{Newest}
use Rattle.mdv_survey.specs.declared.replica.Survey.{Survey}
use Rattle.mdv_databases.specs.Below.{Database, Geometry, Identity, Image, IsSound, Key, Lists, Opened, Place, SliceLine, Tale, last, log_of, site_of}
use Rattle.mdv_databases.specs.Going.{GoOn, IsCurrentOf, IsOpenIn, with_events}
use Rattle.mdv_databases.specs.Meeting.{ListsLieOn, MayBeFound, MostOn, answers_on}
use Rattle.mdv_databases.specs.Lasting.{AreFreed, HasNoTable}
use Rattle.mdv_databases.specs.Standing.{Stand}

-- the adopted table is written anew under the number of the boot, and the database is open with it
pub record IsBootedIn (g : Geometry) (all : List Database) (key : Key) (o : Opened) (u : Tale) : Type 0 where
  pub goes : GoOn g all key o.identity [] (λ log. IsNewestWritten log o.mark o.table) u
  pub is_open : IsOpenIn g o (with_events key goes.es all) u

-- each drive answered with a slice on which a boot of the key looks
abbrev pub AllAnswer : Geometry → Key → Drives → Survey → Type 0
AllAnswer g key up survey = (line : SliceLine) → Contains (site_of g key).lines line → answers_in up survey.failed line.at.drive ≡ true

-- The newest table is one of the key's current database, and more than half of one of its lists is needed. Of some list of places that a boot may find no more than half lie on slices whose drives answered:
-- of that one itself, if a boot may find its table. So not each drive answered.
pub record IsShortOf (g : Geometry) (all : List Database) (key : Key) (up : Drives) (survey : Survey) (needed : ℕ) : Type 0 where
  pub newest : Newest
  pub newest_is : survey.newest ≡ Some newest
  pub version : Version
  pub one_of : Contains (log_of all key).family version
  pub same : version.table ≡ newest.table
  pub list : List Place
  pub list_is : (list ≡ first_of newest.table.plan.lists) ⊎ (list ≡ last_of newest.table.plan.lists)
  pub few : MayBeFound (log_of all key).family version → MostOn g key (answers_on up survey) list → ⊥
  pub some : ListsLieOn g key (answers_on up survey) (log_of all key).family → ⊥
  pub needed_is : needed ≡ needed_of list
  pub away : AllAnswer g key up survey → ⊥

-- A boot of the key that begins on drives that hold this, and reads these, adopts the table with this mark of one of the key's databases, and has a stale vote for it: a replica that it read shows no table,
-- at a place that this table lists and that was formatted again since a later one dropped it.
pub record MeetsStale (up : Drives) (g : Geometry) (all : List Database) (key : Key) (content : Image) : Type 0 where
  pub database : Database
  pub one_of : Contains all database
  pub of_key : database.key ≡ key
  pub lists : Lists
  pub seen : List Seen
  pub mark : Mark
  pub read : WasReadOn up g (site_of g key) database.identity lists content seen mark
  pub stale : HasStaleVote (site_of g key) database.log seen mark

-- one of the key's databases that was deleted has this identity
pub record IsGoneOf (all : List Database) (key : Key) (identity : Identity) : Type 0 where
  pub database : Database
  pub one_of : Contains all database
  pub of_key : database.key ≡ key
  pub as_begun : database.identity ≡ identity
  pub gone : database.log.fate ≡ Over

-- none of the key's databases is about to be deleted, or was
abbrev pub AllLive : List Database → Key → Type 0
AllLive all key = (d : Database) → Contains all d → d.key ≡ key → d.log.fate ≡ Lives

pub record BootsGo : Type 0 where
  -- at each moment of a boot they stand as they did, or the key's current one goes on with nothing asked, if the boot met no stale vote
  pub moments : (up : Drives) (g : Geometry) (all : List Database) (key : Key) (answer : BootEnd) (t m : Tale) → Stand g all t → BootMomentOn up g (site_of g key) answer t m
      → Stand g all m ⊎ (((identity : Identity) × GoOn g all key identity [] AnyLog m) ⊎ MeetsStale up g all key (last t))
  -- then what is adopted is the key's current database, and none that was deleted
  pub ends : (read up : Drives) (g : Geometry) (all : List Database) (key : Key) (o : Opened) (t u : Tale) → Stand g all t → BootMomentOn read g (site_of g key) (end.Adopted o) t u → IsBootedOn up g (site_of g key) o t u → o.key ≡ key
      → IsBootedIn g all key o u ⊎ MeetsStale up g all key (last t)
  -- a replica that shows a table is the key's current database's, or one that was deleted has left it; so there are no two but such
  pub shown : (g : Geometry) (all : List Database) (key : Key) (identity : Identity) (t : Tale) → Stand g all t → HasShown g (site_of g key) identity t → IsCurrentOf all key identity ⊎ IsGoneOf all key identity
  pub one : (g : Geometry) (all : List Database) (key : Key) (a b : Identity) (t : Tale) → Stand g all t → HasShown g (site_of g key) a t → HasShown g (site_of g key) b t → (a ≡ b) ⊎ (IsGoneOf all key a ⊎ IsGoneOf all key b)
  -- as long as none of the key's databases was about to be deleted, a boot is short of places only where of some list that a boot may find no more than half lie on slices whose drives answer
  pub short : (g : Geometry) (all : List Database) (key : Key) (up : Drives) (survey : Survey) (readable needed : ℕ) (t : Tale) → IsSound g → Stand g all t → AllLive all key → IsSurvey (site_of g key) up survey
      → IsSurveyOf g (site_of g key) up (last t) survey → IsShort survey readable needed → IsShortOf g all key up survey needed
  -- Where no replica of the key shows a table, another database of it may be created: each one failed, or was deleted, or was about to be, and then it is.
  pub freed : (g : Geometry) (all : List Database) (key : Key) (t : Tale) → Stand g all t → HasNoTable g key t → AreFreed g all key t ⊎ ((identity : Identity) × (goes : GoOn g all key identity [] AnyLog t) × AreFreed g (with_events key goes.es all) key t)
