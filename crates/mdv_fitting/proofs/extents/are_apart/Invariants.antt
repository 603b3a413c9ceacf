use Rattle.mdv_fitting.proofs.Judging.{Judged}
use Rattle.mdv_fitting.proofs.extents.are_apart.Given as goal

abbrev pub invariant-loop-volume : goal.invariant-loop-volume
invariant-loop-volume l = Judged l.geometry l.plan l.runs l.volume-index
