use Rattle.std.proofs.Common.{◌≡◌, map, take}
use Rattle.mdv_copies.specs.Legs.{volume_in}
use Rattle.mdv_copies.proofs.legs.volumes_in.Given as goal

abbrev pub invariant-loop-leg : goal.invariant-loop-leg
invariant-loop-leg l = l.made.items ≡ map volume_in (take l.leg-index l.legs)
