use Rattle.std.proofs.Common.{take}
use Rattle.mdv_fitting.specs.Runs.{AreRuns}
use Rattle.mdv_fitting.proofs.extents.runs_by_base.Given as goal

abbrev pub invariant-loop-volume : goal.invariant-loop-volume
invariant-loop-volume l = AreRuns (take l.volume-index l.volumes) l.runs
