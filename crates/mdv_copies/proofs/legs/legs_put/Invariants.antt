use Rattle.std.proofs.Common.{◌≡◌, map, take}
use Rattle.mdv_copies.specs.Legs.{leg_put}
use Rattle.mdv_copies.proofs.legs.legs_put.Given as goal

abbrev pub invariant-loop-leg : goal.invariant-loop-leg
invariant-loop-leg l = l.made.items ≡ map (leg_put l.volume l.offline) (take l.leg-index l.legs)
