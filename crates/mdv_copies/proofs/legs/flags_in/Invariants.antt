use Rattle.std.proofs.Common.{◌≡◌, map, take}
use Rattle.mdv_copies.specs.Legs.{flag_in}
use Rattle.mdv_copies.proofs.legs.flags_in.Given as goal

abbrev pub invariant-loop-leg : goal.invariant-loop-leg
invariant-loop-leg l = l.made.items ≡ map flag_in (take l.leg-index l.legs)
