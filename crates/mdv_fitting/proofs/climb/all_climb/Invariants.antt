use Rattle.std.proofs.Common.{take}
use Rattle.mdv_fitting.proofs.Climbing.{Climbed}
use Rattle.mdv_fitting.proofs.climb.all_climb.Given as goal

abbrev pub invariant-loop-volume : goal.invariant-loop-volume
invariant-loop-volume l = Climbed l.geometry l.plan (take l.volume-index l.plan.volumes) l.lasts
