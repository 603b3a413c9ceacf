-- How all databases stand while a deed of one of them is told: its log goes on, and nothing else.
use Rattle.std.specs.Prelude.{List}
use Rattle.mdv_store_law.specs.Log.{MayHappen, Told}
use Rattle.mdv_databases.specs.Below.{Change, Database, Geometry, Identity, Key, Opened, Tale, log_of, with_event}
use Rattle.mdv_databases.specs.Going.{HasAllTold, IsCurrentOf, IsOpenIn}
use Rattle.mdv_databases.specs.Standing.{Stand}

pub record TellsGo : Type 0 where
  -- these changes of the key's current database are told, or its creation, where they may be
  pub stand : (g : Geometry) (all : List Database) (key : Key) (identity : Identity) (which before : List Change) (m : Tale) → Stand g all m → IsCurrentOf all key identity → MayHappen g (log_of all key) (Told which before)
      → Stand g (with_event key (Told which before) all) m
  -- an open one stays open
  pub is_open : (g : Geometry) (all : List Database) (o : Opened) (which before : List Change) (m : Tale) → IsOpenIn g o all m → IsOpenIn g o (with_event o.key (Told which before) all) m
  -- what is open has every change that was told
  pub has : (g : Geometry) (all : List Database) (o : Opened) (t : Tale) → Stand g all t → IsOpenIn g o all t → HasAllTold g o (log_of all o.key)
