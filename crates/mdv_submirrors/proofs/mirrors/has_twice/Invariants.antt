use Rattle.std.proofs.Common.{◌≡◌, length}
use Rattle.mdv_submirrors.specs.Mirrors.{has_twice}
use Rattle.mdv_submirrors.proofs.mirrors.has_twice.Given as goal

abbrev pub invariant-loop-rest : goal.invariant-loop-rest
invariant-loop-rest l = has_twice l.volumes ≡ has_twice l.rest

abbrev pub decreases-loop-rest : goal.decreases-loop-rest
decreases-loop-rest l = length l.rest
