use Rattle.std.proofs.Common.{take}
use Rattle.mdv_look.specs.Looking.{AreLeftOf}
use Rattle.mdv_look.proofs.looking.left_of.Given as goal

abbrev pub invariant-loop-drive : goal.invariant-loop-drive
invariant-loop-drive l = AreLeftOf (take l.drive-index l.drives) l.up l.failed l.left
