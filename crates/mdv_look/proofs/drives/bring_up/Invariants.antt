use Rattle.std.proofs.Common.{take}
use Rattle.mdv_look.proofs.Bringing.{SoFar}
use Rattle.mdv_look.proofs.drives.bring_up.Given as goal

abbrev pub invariant-loop-drive : goal.invariant-loop-drive
invariant-loop-drive g l = SoFar g.S.Shelf l.fn.shelf l.shelf (take l.drive-index l.drives) l.up
