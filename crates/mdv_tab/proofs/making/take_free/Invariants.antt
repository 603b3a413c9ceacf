use Rattle.std.proofs.Common.{length}
use Rattle.mdv_tab.specs.Making.{IsQueued, IsSeen}
use Rattle.mdv_tab.proofs.making.take_free.Given as goal

abbrev pub invariant-loop-place : goal.invariant-loop-place
invariant-loop-place l = IsQueued l.graph l.made l.queue × IsSeen l.graph l.made l.seen

abbrev pub decreases-loop-place : goal.decreases-loop-place
decreases-loop-place l = length l.queue
