use Rattle.std.proofs.Common.{take}
use Rattle.mdv_fitting.specs.Climb.{Climbs}
use Rattle.mdv_fitting.proofs.climb.climb.Given as goal

abbrev pub invariant-loop-run : goal.invariant-loop-run
invariant-loop-run l = Climbs l.blocks l.end l.last (take l.run-index l.runs)
