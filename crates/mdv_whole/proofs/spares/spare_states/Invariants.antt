use Rattle.std.proofs.Common.{take}
use Rattle.mdv_whole.specs.Held.{Holds}
use Rattle.mdv_whole.specs.Parted.{spare_states}
use Rattle.mdv_whole.proofs.spares.spare_states.Given as goal

abbrev pub invariant-loop-pool : goal.invariant-loop-pool
invariant-loop-pool l = Holds l.noted (spare_states (take l.pool-index l.pools))
