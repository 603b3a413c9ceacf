use Rattle.std.proofs.Common.{◌≡◌, length}
use Rattle.mdv_command.specs.Given.{interlace_given}
use Rattle.mdv_command.proofs.given.interlace_given.Given as goal

abbrev pub invariant-loop-rest : goal.invariant-loop-rest
invariant-loop-rest l = interlace_given l.given ≡ interlace_given l.rest

abbrev pub decreases-loop-rest : goal.decreases-loop-rest
decreases-loop-rest l = length l.rest
