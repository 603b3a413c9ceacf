-- A history with which the drives stand as a run begins: no boot of the run met a stale vote in it.
use Rattle.std.proofs.Common.{ℕ, List, Contains}
use Rattle.mdv_engine_law.specs.Standing.{AreOwn, StandsAt}
use Rattle.mdv_engine_law.specs.declared.host.Host.{Host}
use Rattle.mdv_name.specs.declared.geometry.Geometry.{Geometry}
use Rattle.mdv_port.specs.Script.{Script}
use Rattle.mdv_run_law.specs.Lives.{HasMetNone, IsHistoryOf, Ran, host_of}
use Rattle.mdv_run_law.proofs.Living.{blocks_hold}
use Rattle.mdv_run_law.proofs.Owning.{IsOfRuns, runs_own}
use Rattle.mdv_shelf.specs.Tale.{Tale}
use Rattle.mdv_volumes.specs.History.{History, history_after_all}
use Rattle.mdv_volumes.specs.HistoryLaws.{new_history}
use Rattle.mdv_volumes.proofs.Owners.{AreEach}
use Rattle.mdv_shelf.specs.Everywhere.{Image}
use Rattle.mdv_theorem.specs.Running.{Running}
use Rattle.mdv_theorem.proofs.Come.{HasMetNothing}
use Rattle.mdv_theorem.proofs.Living.{lived_life}
use Rattle.mdv_theorem.proofs.Owned.{own_new}

module _ {drives : Geometry} {name : List ℕ} {before : List Ran} {script : Script} (run : Running drives name before script) (of_table : Contains drives.hosts name) where
  abbrev host : Host
  host = host_of drives name run.fresh

  abbrev pub its_start : IsHistoryOf drives name run.made before run.t.tale
  its_start = (blocks_hold drives name run.made before run.t.tale of_table (lived_life drives run.made before run.t.tale run.life)).history

  abbrev pub start : History
  start = history_after_all new_history its_start.es

  pub start_stands : StandsAt host start run.t.tale
  start_stands = its_start.stands

  pub start_of : AreEach (IsOfRuns name before) start.databases
  start_of = runs_own drives name before its_start.es its_start.come

  pub start_own : AreOwn host 0 start
  start_own = own_new drives name run.fresh before start run.new_word start_of

  -- at a moment of it, and at the one at which it is
  pub none_met : (m : Tale) → HasMetNone drives name before run.fresh script run.t.tale m → HasMetNothing host script start run.t.tale m
  none_met m clean = clean run.made its_start

  pub met_none : HasMetNothing host script start run.t.tale run.m.tale
  met_none = none_met run.m.tale run.clean

-- so it is of any history of the runs before
module _ {drives : Geometry} {name : List ℕ} {before : List Ran} {script : Script} (run : Running drives name before script) {held : Image} (of : IsHistoryOf drives name held before run.t.tale) where
  abbrev pub start_by : History
  start_by = history_after_all new_history of.es

  pub own_by : AreOwn (host_of drives name run.fresh) 0 start_by
  own_by = own_new drives name run.fresh before start_by run.new_word (runs_own drives name before of.es of.come)

  pub none_by : HasMetNothing (host_of drives name run.fresh) script start_by run.t.tale run.m.tale
  none_by = run.clean held of
