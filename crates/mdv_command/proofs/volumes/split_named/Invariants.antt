use Rattle.std.proofs.Common.{length}
use Rattle.mdv_command.specs.Volumes.{named_of}
use Rattle.mdv_parts.proofs.Fronts.{RunSoFar}
use Rattle.mdv_command.proofs.volumes.split_named.Given as goal

abbrev pub invariant-loop-rest : goal.invariant-loop-rest
invariant-loop-rest l = RunSoFar named_of l.parts l.rest l.list

abbrev pub decreases-loop-rest : goal.decreases-loop-rest
decreases-loop-rest l = length l.rest
