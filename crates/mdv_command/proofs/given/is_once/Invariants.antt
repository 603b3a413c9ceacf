use Rattle.std.proofs.Common.{◌≡◌, length}
use Rattle.mdv_command.specs.Given.{is_once}
use Rattle.mdv_command.proofs.given.is_once.Given as goal

abbrev pub invariant-loop-rest : goal.invariant-loop-rest
invariant-loop-rest l = is_once l.given ≡ is_once l.rest

abbrev pub decreases-loop-rest : goal.decreases-loop-rest
decreases-loop-rest l = length l.rest
