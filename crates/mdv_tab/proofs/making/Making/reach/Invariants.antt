use Rattle.mdv_tab.specs.Making.{IsSoFar, IsQueued, AreMade, count_left}
use Rattle.mdv_tab.proofs.making.Making.reach.Given as goal

abbrev pub invariant-loop-self : goal.invariant-loop-self
invariant-loop-self l = IsSoFar l.graph l.self × IsQueued l.graph l.self.made.items l.self.queue × AreMade l.self.made.items l.first

abbrev pub decreases-loop-self : goal.decreases-loop-self
decreases-loop-self l = count_left l.self.made.items
