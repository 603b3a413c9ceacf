use Rattle.std.proofs.Common.{length}
use Rattle.mdv_tab.proofs.ReadingText.{TabSoFar}
use Rattle.mdv_tab.proofs.read.read_tab.Given as goal

abbrev pub invariant-loop-rest : goal.invariant-loop-rest
invariant-loop-rest l = TabSoFar l.text l.rest l.number l.entries.items

abbrev pub decreases-loop-rest : goal.decreases-loop-rest
decreases-loop-rest l = length l.rest
