use Rattle.std.proofs.Common.{◌≡◌, take}
use Rattle.std.specs.List.{flat_map}
use Rattle.mdv_plan.specs.Uses.{volume_runs}
use Rattle.mdv_plan.proofs.plan.Plan.runs_on.Given as goal

abbrev pub invariant-loop-volume : goal.invariant-loop-volume
invariant-loop-volume l = l.runs.items ≡ flat_map (volume_runs l.base) (take l.volume-index l.volume-items)
