use Rattle.std.proofs.Common.{length}
use Rattle.mdv_parts.specs.Runs.{volume_of}
use Rattle.mdv_parts.proofs.Fronts.{RunSoFar}
use Rattle.mdv_parts.proofs.runs.split_volumes.Given as goal

abbrev pub invariant-loop-rest : goal.invariant-loop-rest
invariant-loop-rest l = RunSoFar volume_of l.parts l.rest l.list

abbrev pub decreases-loop-rest : goal.decreases-loop-rest
decreases-loop-rest l = length l.rest
