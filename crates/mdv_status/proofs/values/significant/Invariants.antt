use Rattle.std.proofs.Common.{◌≡◌, length}
use Rattle.mdv_status.specs.Values.{significant}
use Rattle.mdv_status.proofs.values.significant.Given as goal

abbrev pub invariant-loop-bytes : goal.invariant-loop-bytes
invariant-loop-bytes l = significant l.bytes ≡ significant l.fn.block

abbrev pub decreases-loop-bytes : goal.decreases-loop-bytes
decreases-loop-bytes l = length l.bytes
