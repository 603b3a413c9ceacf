use Rattle.std.proofs.Common.{take}
use Rattle.mdv_look.specs.Looking.{HasFailedOn}
use Rattle.mdv_look.proofs.looking.has_failed.Given as goal

abbrev pub invariant-loop-drive : goal.invariant-loop-drive
invariant-loop-drive l = HasFailedOn (take l.drive-index l.drives) l.up l.failed → ⊥
