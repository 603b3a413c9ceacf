-- A history in which a key's current database, which shows no table, counts as over though no other one was begun.
use Rattle.std.specs.Prelude.{◌≡◌, List, None, Some, Contains}
use Rattle.mdv_databases.specs.Lasting.{AreFreed}
use Rattle.mdv_store.specs.Blank.{IsBlank}
use Rattle.mdv_store_law.specs.Log.{Lives}
use Rattle.mdv_volumes.specs.Below.{Geometry, Identity, IsFresh, Key, Map, Tale, VolId}
use Rattle.mdv_volumes.specs.Databases.{Database, current_of, with_over}
use Rattle.mdv_volumes.specs.Happening.{IsCourse, IsNamed, MayBegin, issued_by}
use Rattle.mdv_volumes.specs.Histories.{Stands}
use Rattle.mdv_volumes.specs.History.{Created, Creation, Event, History, history_after, history_after_all}
use Rattle.mdv_volumes.specs.HistoryLaws.{HasLogs}

-- the key's current one is over, and all else is as it was
abbrev pub struck : Key → History → History
struck key h = record h { databases = with_over key h.databases }

-- the key has no current database in it, and others have theirs
pub record IsWithout (h : History) (key : Key) : Type 0 where
  pub none : current_of (struck key h).databases key ≡ None
  pub others : (other : Key) → (key ≡ other → ⊥) → current_of (struck key h).databases other ≡ current_of h.databases other
  pub fresh : (identity : Identity) → IsFresh h.databases identity → IsFresh (struck key h).databases identity

-- The drives stand with it, each key's log is one, and no volume of the key is one of a table that a boot may find. Another database of the key may begin, and
-- then nothing tells that the earlier one was struck before.
pub record IsStruck (g : Geometry) (h : History) (key : Key) (t : Tale) : Type 0 where
  pub stands : Stands g (struck key h) t
  pub logs : HasLogs g (struck key h)
  pub freed : AreFreed g (struck key h).databases key t
  pub databases : IsWithout h key
  pub unnamed : (volume : VolId) (v : Map) → IsNamed g (struck key h).databases key volume v → ⊥
  pub begin : (identity : Identity) → IsFresh h.databases identity → MayBegin (struck key h).databases key identity
  pub begun : (identity : Identity) → history_after (struck key h) (Creation key identity) ≡ history_after h (Creation key identity)

pub record StrikesGo : Type 0 where
  -- so it is where each of the key's databases shows no table, as a creation leaves it that failed, or was deleted
  pub freed : (g : Geometry) (h : History) (key : Key) (t : Tale) → Stands g h t → AreFreed g h.databases key t → IsStruck g h key t
  -- or where the current one shows none, and was never about to be deleted
  pub blank : (g : Geometry) (h : History) (key : Key) (d : Database) (t : Tale) → Stands g h t → current_of h.databases key ≡ Some d
      → d.log.fate ≡ Lives → IsBlank g key d.identity t → IsStruck g h key t
  -- a key without a current database has none until one is created
  pub stays : (g : Geometry) (h : History) (key : Key) (es : List Event) → IsCourse g h es → current_of h.databases key ≡ None → (Contains (issued_by es) (Created key) → ⊥)
      → current_of (history_after_all h es).databases key ≡ None
