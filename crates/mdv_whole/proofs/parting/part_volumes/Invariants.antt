use Rattle.mdv_whole.proofs.Parts.{AreParted}
use Rattle.mdv_whole.proofs.parting.part_volumes.Given as goal

abbrev pub invariant-loop-i : goal.invariant-loop-i
invariant-loop-i l = AreParted l.fn.volumes l.volumes l.i l.planned.items l.noted.items
