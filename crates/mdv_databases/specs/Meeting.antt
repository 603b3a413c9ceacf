-- Of more than half of the places that the tables of a database list, one has a replica that shows a table.
use Rattle.std.specs.Prelude.{◌≡◌, ◌*◌, ◌<◌, ℕ, Bool, true, false, List, length, count_by, Option, None, Some, Contains}
use Rattle.mdv_replica.specs.Form.{shows}
use Rattle.mdv_survey.specs.Replica.{IsFoundIn}
use Rattle.mdv_store_law.specs.Log.{IsNotOlder, Lives, Version, is_firm}
use Rattle.mdv_base.specs.DriveSet.{Drives}
use Rattle.mdv_store.specs.Boot.{IsShort}
use Rattle.mdv_survey.specs.Survey.{IsSurvey, IsSurveyOf, answers_in}
use Rattle.mdv_survey.specs.declared.replica.Survey.{Survey}
use Rattle.mdv_config.specs.Lists.{first_of, last_of}
use Rattle.mdv_databases.specs.Below.{Database, Geometry, IsSound, Key, Place, Replica, SliceAt, Tale, last, log_of, site_of, slice_at}
use Rattle.mdv_databases.specs.Standing.{Stand}

-- a boot may find this version: none whose write was answered is above it
abbrev pub MayBeFound : List Version → Version → Type 0
MayBeFound family version = Contains family version × IsNotOlder version.mark family

-- the slice is there, on a drive that passes the test
abbrev pub is_on : (ℕ → Bool) → Option SliceAt → Bool
is_on up None = false
is_on up (Some at) = up at.drive.0

-- more than half of these places lie on slices on which the key's boots look, on drives that pass the test
abbrev pub MostOn : Geometry → Key → (ℕ → Bool) → List Place → Type 0
MostOn g key up places = length places < 2 * count_by (λ (place : Place). is_on up (slice_at (site_of g key).lines place.slice)) places

-- so it is of each list of each version that a boot may find
abbrev pub ListsLieOn : Geometry → Key → (ℕ → Bool) → List Version → Type 0
ListsLieOn g key up family = (v : Version) → MayBeFound family v → MostOn g key up (first_of v.table.plan.lists) × MostOn g key up (last_of v.table.plan.lists)

-- no call failed on the drive, which is up
abbrev pub answers_on : Drives → Survey → ℕ → Bool
answers_on up survey drive = answers_in up survey.failed (record { 0 = drive })

pub record DatabasesMeet : Type 0 where
  -- once a write of the key's current database was answered, as long as it isn't about to be deleted, and more than half of each list of places that a boot may find lie on such drives: a replica that shows a table is found on one of them
  pub shown : (g : Geometry) (all : List Database) (key : Key) (up : ℕ → Bool) (t : Tale) → Stand g all t → (log_of all key).fate ≡ Lives → is_firm (log_of all key) ≡ true
      → ListsLieOn g key up (log_of all key).family
      → (r : Replica) × IsFoundIn g (site_of g key) (last t) r × (up r.line.at.drive.0 ≡ true) × (shows r.head ≡ true)
  -- and a boot isn't short of places where the drives that answer are such
  pub enough : (g : Geometry) (all : List Database) (key : Key) (up : Drives) (survey : Survey) (readable needed : ℕ) (t : Tale) → IsSound g → Stand g all t → (log_of all key).fate ≡ Lives → IsSurvey (site_of g key) up survey
      → IsSurveyOf g (site_of g key) up (last t) survey → is_firm (log_of all key) ≡ true → ListsLieOn g key (answers_on up survey) (log_of all key).family
      → IsShort survey readable needed → ⊥
