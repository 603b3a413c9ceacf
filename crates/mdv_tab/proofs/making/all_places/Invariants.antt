use Rattle.mdv_tab.specs.Making.{IsEach}
use Rattle.mdv_tab.proofs.making.all_places.Given as goal

abbrev pub invariant-loop-place : goal.invariant-loop-place
invariant-loop-place l = IsEach l.queue l.place
