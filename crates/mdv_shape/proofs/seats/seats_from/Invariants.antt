use Rattle.std.proofs.Common.{take}
use Rattle.mdv_shape.specs.Found.{AreFirsts}
use Rattle.mdv_shape.proofs.seats.seats_from.Given as goal

abbrev pub invariant-loop-spare : goal.invariant-loop-spare
invariant-loop-spare l = AreFirsts (take l.spare-index l.spares) l.seats
