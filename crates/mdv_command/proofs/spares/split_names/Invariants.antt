use Rattle.std.proofs.Common.{length}
use Rattle.mdv_parts.specs.Runs.{pool_of}
use Rattle.mdv_parts.proofs.Fronts.{RunSoFar}
use Rattle.mdv_command.proofs.spares.split_names.Given as goal

abbrev pub invariant-loop-rest : goal.invariant-loop-rest
invariant-loop-rest l = RunSoFar pool_of l.parts l.rest l.list

abbrev pub decreases-loop-rest : goal.decreases-loop-rest
decreases-loop-rest l = length l.rest
