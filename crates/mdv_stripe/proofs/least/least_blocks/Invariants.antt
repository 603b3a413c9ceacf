use Rattle.mdv_stripe.specs.Stripes.{maps_of}
use Rattle.mdv_stripe.proofs.Leasts.{IsLeastYet}
use Rattle.mdv_stripe.proofs.least.least_blocks.Given as goal

abbrev pub invariant-loop-component : goal.invariant-loop-component
invariant-loop-component g l = IsLeastYet (maps_of g.D.Placed.map l.components) l.component-index l.least
