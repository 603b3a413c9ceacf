use Rattle.std.proofs.Common.{◌≡◌, ◌+◌, drop}
use Rattle.mdv_votes.specs.Family.{index_at}
use Rattle.mdv_votes.proofs.places.index_of.Given as goal

abbrev pub invariant-loop-place : goal.invariant-loop-place
invariant-loop-place l = (l.index ≡ l.place-index) × (index_at l.places l.p ≡ l.index + index_at (drop l.place-index l.places) l.p)
