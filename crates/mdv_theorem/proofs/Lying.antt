-- Where a volume lies that a line of a run finds in the open table: as it may by the lines before it.
use Rattle.std.proofs.Common.{◌≡◌, ℕ, List, [], ◌++◌, Some}
use Rattle.mdv_base.specs.declared.name.VolId.{VolId}
use Rattle.mdv_name.specs.declared.geometry.Geometry.{Geometry}
use Rattle.mdv_plan.specs.Table.{empty_table}
use Rattle.mdv_port.specs.Script.{Script}
use Rattle.mdv_run_law.specs.Below.{Map}
use Rattle.mdv_run_law.specs.Lives.{IsHistoryOf, Ran, host_of}
use Rattle.mdv_shelf.specs.Everywhere.{Image}
use Rattle.mdv_store.specs.Opened.{Opened}
use Rattle.mdv_volumes.specs.Tables.{IsMapOf}
use Rattle.mdv_theorem.specs.Exchanges.{Exchange, exchanges_by}
use Rattle.mdv_theorem.specs.Running.{Running}
use Rattle.mdv_theorem.specs.Words.{MayHave, MayLie}
use Rattle.mdv_theorem.proofs.Clean.{start_by}
use Rattle.mdv_theorem.proofs.Having.{HasCome}
use Rattle.mdv_theorem.proofs.Reaching.{bare}
use Rattle.mdv_theorem.proofs.Steps.{Between, Failed, Reached}
use Rattle.mdv_theorem.proofs.Tabled.{come_idle, come_steps, open_come, open_lies}

-- by a history with which the run begins, and by which each table that a boot may find is one that earlier lines may have made
module _ {drives : Geometry} {name : List ℕ} {before : List Ran} {script : Script} (run : Running drives name before script) {held : Image} (of : IsHistoryOf drives name held before run.t.tale) (are : HasCome drives name (exchanges_by name before) (start_by run of))
    (here : List Exchange) (one : Exchange) (at : Reached run of here one) where
  abbrev now : Between (host_of drives name run.fresh)
  now = record { kept = at.kept; sure = at.sure }

  abbrev lines : List Exchange
  lines = exchanges_by name before ++ here

  -- so it is at the line
  come_there : HasCome drives name lines at.sure.history
  come_there =
      come_steps drives name (empty_table []) run.fresh (Failed run) (exchanges_by name before) (record { kept = at.first; sure = at.first_sure }) now here
      (come_idle drives name (empty_table []) run.fresh (exchanges_by name before) (start_by run of) at.first_sure.history at.begun are) at.steps

  pub table_there : (o : Opened) → at.kept.memory.opened ≡ Some o → MayHave drives name lines (bare o.table)
  table_there o opened = open_come drives name (empty_table []) run.fresh lines now o opened come_there

  pub lies_there : (volume : VolId) (o : Opened) → at.kept.memory.opened ≡ Some o → (v : Map) → IsMapOf (host_of drives name run.fresh).drives o.table volume v → MayLie drives name volume v lines
  lies_there volume o opened v lies = open_lies drives name run.fresh lines now o opened come_there volume v lies
