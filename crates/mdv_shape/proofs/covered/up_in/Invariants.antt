use Rattle.std.proofs.Common.{◌≡◌, take}
use Rattle.mdv_shape.specs.Covered.{up_in}
use Rattle.mdv_shape.proofs.covered.up_in.Given as goal

abbrev pub invariant-loop-leg : goal.invariant-loop-leg
invariant-loop-leg l = l.list.items ≡ up_in (take l.leg-index l.legs)
