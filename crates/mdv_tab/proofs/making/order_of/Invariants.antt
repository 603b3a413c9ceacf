use Rattle.mdv_tab.specs.Making.{IsSoFar, IsQueued, AreMade}
use Rattle.mdv_tab.proofs.making.order_of.Given as goal

abbrev pub invariant-loop-first : goal.invariant-loop-first
invariant-loop-first l = IsSoFar l.graph l.making × IsQueued l.graph l.making.made.items l.making.queue × AreMade l.making.made.items l.first
