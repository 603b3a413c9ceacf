use Rattle.std.proofs.Common.{◌≡◌, length}
use Rattle.mdv_spares.specs.Pools.{spare_in}
use Rattle.mdv_spares.proofs.pools.spare_in.Given as goal

abbrev pub invariant-loop-rest : goal.invariant-loop-rest
invariant-loop-rest l = spare_in l.pools l.slice ≡ spare_in l.rest l.slice

abbrev pub decreases-loop-rest : goal.decreases-loop-rest
decreases-loop-rest l = length l.rest
