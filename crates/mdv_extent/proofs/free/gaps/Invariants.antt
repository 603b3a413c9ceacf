use Rattle.std.proofs.Common.{◌≡◌, ◌++◌, drop}
use Rattle.mdv_extent.proofs.Sweeping.{gaps_from}
use Rattle.mdv_extent.proofs.free.gaps.Given as goal

abbrev pub invariant-loop-run : goal.invariant-loop-run
invariant-loop-run l = l.free.items ++ gaps_from l.next l.blocks (drop l.run-index l.used) ≡ gaps_from 0 l.blocks l.used
