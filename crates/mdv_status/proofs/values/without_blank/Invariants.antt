use Rattle.std.proofs.Common.{◌≡◌, length}
use Rattle.mdv_status.specs.Values.{significant}
use Rattle.mdv_status.proofs.values.without_blank.Given as goal

abbrev pub invariant-loop-front : goal.invariant-loop-front
invariant-loop-front l = significant l.bytes ≡ significant l.fn.block

abbrev pub decreases-loop-front : goal.decreases-loop-front
decreases-loop-front l = length l.bytes
