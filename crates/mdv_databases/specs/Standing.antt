-- How the drives stand with all databases that were ever begun on them, of whatever key.
use Rattle.std.specs.Prelude.{◌≡◌, ◌⊎◌, true, false, List, [], ◌∷◌, Some, Contains}
use Rattle.mdv_store_law.specs.Anew.{IsAnew}
use Rattle.mdv_store_law.specs.Log.{IsLog, Lives, Over, Version}
use Rattle.mdv_databases.specs.Below.{AllStand, Database, Geometry, IsBlank, Log, One, Place, Spells, Tale, current_of}

-- a key has one current database at most: each that isn't over is it
abbrev pub AreCurrent : List Database → Type 0
AreCurrent all = (d : Database) → Contains all d → d.over ≡ false → current_of all d.key ≡ Some d

-- it was never about to be deleted, and shows no table, as a creation leaves it that failed; or it was deleted
abbrev pub IsFree : Geometry → Database → Tale → Type 0
IsFree g d t = ((d.log.fate ≡ Lives) × IsBlank g d.key d.identity t) ⊎ (d.log.fate ≡ Over)

-- the write of its newest table was answered, and that lists one place alone
pub record HasOnePlace (log : Log) : Type 0 where
  pub newest : Version
  pub older : List Version
  pub is : log.family ≡ newest ∷ older
  pub written : newest.is_written ≡ true
  pub place : Place
  pub only : newest.table.plan.lists ≡ One (place ∷ [])

-- a database that is about to be deleted, or was, had one place then
abbrev pub EndsSole : Log → Type 0
EndsSole log = (log.fate ≡ Lives → ⊥) → HasOnePlace log

-- Whatever a crash leaves shows a world of each database's log, and each replica that is found is of one of them; a key has one at most that isn't over; and
-- of one that is over no replica shows a table, or it was deleted.
pub record Stand (g : Geometry) (all : List Database) (t : Tale) : Type 0 where
  pub worlds : AllStand (Spells g) g all t
  pub logs : (d : Database) → Contains all d → IsLog g d.log
  pub ended : (d : Database) → Contains all d → EndsSole d.log
  pub current : AreCurrent all
  pub over : (d : Database) → Contains all d → d.over ≡ true → IsFree g d t

-- as long as nothing asks for places to be formatted again, for a second list of places, or for a database to end
abbrev pub AreAnew : List Database → Type 0
AreAnew all = (d : Database) → Contains all d → IsAnew d.log
