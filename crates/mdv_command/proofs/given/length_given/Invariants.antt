use Rattle.std.proofs.Common.{◌≡◌, length}
use Rattle.mdv_command.specs.Given.{length_given}
use Rattle.mdv_command.proofs.given.length_given.Given as goal

abbrev pub invariant-loop-rest : goal.invariant-loop-rest
invariant-loop-rest l = length_given l.given ≡ length_given l.rest

abbrev pub decreases-loop-rest : goal.decreases-loop-rest
decreases-loop-rest l = length l.rest
