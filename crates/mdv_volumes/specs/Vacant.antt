-- A history without a current database of a key: as long as the drives stand with it, no replica of the key shows a table.
use Rattle.std.specs.Prelude.{◌≡◌, List, None, Contains}
use Rattle.mdv_databases.specs.Booting.{AllLive}
use Rattle.mdv_databases.specs.Lasting.{AreFreed, HasNoTable}
use Rattle.mdv_volumes.specs.Below.{Geometry, Key, Tale}
use Rattle.mdv_volumes.specs.Databases.{current_of}
use Rattle.mdv_volumes.specs.Happening.{IsCourse, issued_by}
use Rattle.mdv_volumes.specs.Histories.{Stands}
use Rattle.mdv_volumes.specs.History.{Created, Event, History, history_after_all}
use Rattle.mdv_volumes.specs.HistoryLaws.{KeepDatabase, new_history}
use Rattle.mdv_volumes.specs.Striking.{struck}

-- the drives stand with the history, in which the key has no current database, and none of its databases was ever about to be deleted
pub record IsVacant (g : Geometry) (h : History) (key : Key) (t : Tale) : Type 0 where
  pub stands : Stands g h t
  pub none : current_of h.databases key ≡ None
  pub live : AllLive h.databases key

pub record VacantStay : Type 0 where
  -- then no replica shows a table: so no boot meets a stale vote, or writes
  pub blank : (g : Geometry) (h : History) (key : Key) (t : Tale) → IsVacant g h key t → HasNoTable g key t
  -- so it is of new drives, and stays so, whatever happens, until a database of the key is created
  pub new : (g : Geometry) (key : Key) (t : Tale) → Stands g new_history t → IsVacant g new_history key t
  pub onward : (g : Geometry) (h : History) (key : Key) (es : List Event) (t m : Tale) → IsVacant g h key t → IsCourse g h es → (Contains (issued_by es) (Created key) → ⊥) → KeepDatabase key es
      → Stands g (history_after_all h es) m → IsVacant g (history_after_all h es) key m
  -- and behind creations that failed, once their database is struck
  pub failed : (g : Geometry) (h : History) (key : Key) (es : List Event) (t u : Tale) → IsVacant g h key t → IsCourse g h es → KeepDatabase key es → Stands g (history_after_all h es) u
      → AreFreed g (history_after_all h es).databases key u → IsVacant g (struck key (history_after_all h es)) key u
