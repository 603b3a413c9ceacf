use Rattle.std.proofs.Common.{take}
use Rattle.mdv_change.specs.Seats.{AreKeys}
use Rattle.mdv_change.proofs.seats.set_of.Given as goal

abbrev pub invariant-loop-key : goal.invariant-loop-key
invariant-loop-key l = AreKeys l.set (take l.key-index l.keys)
