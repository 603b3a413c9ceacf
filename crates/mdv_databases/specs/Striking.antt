-- A key's current database that was never told of, and shows no table, may count as over though no other one was begun.
use Rattle.std.specs.Prelude.{◌≡◌, List, None, Some}
use Rattle.mdv_standing.specs.Databases.{with_over}
use Rattle.mdv_store_law.specs.Log.{Lives}
use Rattle.mdv_databases.specs.Below.{Database, Geometry, Identity, IsBlank, IsFresh, Key, Tale, current_of}
use Rattle.mdv_databases.specs.Booting.{AllLive}
use Rattle.mdv_databases.specs.Lasting.{AreFreed, HasNoTable}
use Rattle.mdv_databases.specs.Standing.{Stand}

-- The key's current one is struck: the drives stand with it as over, the key has no current one then, and others have theirs.
pub record IsStruckOf (g : Geometry) (all : List Database) (key : Key) (t : Tale) : Type 0 where
  pub stand : Stand g (with_over key all) t
  pub none : current_of (with_over key all) key ≡ None
  pub others : (other : Key) → (key ≡ other → ⊥) → current_of (with_over key all) other ≡ current_of all other
  pub freed : AreFreed g (with_over key all) key t
  pub fresh : (identity : Identity) → IsFresh all identity → IsFresh (with_over key all) identity

pub record StrikesGo : Type 0 where
  -- so it is where each of the key's databases shows no table, as a creation leaves it that failed, or was deleted
  pub freed : (g : Geometry) (all : List Database) (key : Key) (t : Tale) → Stand g all t → AreFreed g all key t → IsStruckOf g all key t
  -- or where the current one shows none, and was never about to be deleted
  pub blank : (g : Geometry) (all : List Database) (key : Key) (d : Database) (t : Tale) → Stand g all t → current_of all key ≡ Some d
      → d.log.fate ≡ Lives → IsBlank g key d.identity t → IsStruckOf g all key t
  -- no replica of such a key shows a table, if none of its databases was about to be deleted
  pub none : (g : Geometry) (all : List Database) (key : Key) (t : Tale) → Stand g all t → AreFreed g all key t → AllLive all key → HasNoTable g key t
