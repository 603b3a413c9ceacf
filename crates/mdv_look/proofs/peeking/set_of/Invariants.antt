use Rattle.std.proofs.Common.{take}
use Rattle.mdv_look.specs.Peeking.{AreAllOf}
use Rattle.mdv_look.proofs.peeking.set_of.Given as goal

abbrev pub invariant-loop-drive : goal.invariant-loop-drive
invariant-loop-drive l = AreAllOf (take l.drive-index l.drives) l.set
