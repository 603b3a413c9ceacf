use Rattle.std.proofs.Common.{take}
use Rattle.std.specs.List.{All}
use Rattle.mdv_fitting.specs.Beside.{HasOnce}
use Rattle.mdv_fitting.proofs.fit.have_once.Given as goal

abbrev pub invariant-loop-pool : goal.invariant-loop-pool
invariant-loop-pool l = All HasOnce (take l.pool-index l.pools)
