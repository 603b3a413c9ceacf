use Rattle.std.proofs.Common.{length}
use Rattle.mdv_tab.proofs.Gathering.{GatheredSoFar}
use Rattle.mdv_tab.proofs.group.gather.Given as goal

abbrev pub invariant-loop-rest : goal.invariant-loop-rest
invariant-loop-rest l = GatheredSoFar l.text l.rest l.group.text.items l.group.ascii l.group.lines

abbrev pub decreases-loop-rest : goal.decreases-loop-rest
decreases-loop-rest l = length l.rest
