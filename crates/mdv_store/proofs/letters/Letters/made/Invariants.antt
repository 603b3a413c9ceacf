use Rattle.mdv_store.specs.Letters.{made_flags}
use Rattle.mdv_store.proofs.Lettering.{AreSoFar}
use Rattle.mdv_store.proofs.letters.Letters.made.Given as goal

abbrev pub invariant-loop-place : goal.invariant-loop-place
invariant-loop-place l = AreSoFar (λ was place. made_flags was) l.places l.place-index l.was l.seen
