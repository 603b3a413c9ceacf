use Rattle.std.proofs.Common.{length}
use Rattle.mdv_tab.proofs.LineEnds.{CutSoFar}
use Rattle.mdv_tab.proofs.lines.cut_line.Given as goal

abbrev pub invariant-loop-rest : goal.invariant-loop-rest
invariant-loop-rest l = CutSoFar l.line l.rest

abbrev pub decreases-loop-rest : goal.decreases-loop-rest
decreases-loop-rest l = length l.rest
