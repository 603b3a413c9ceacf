use Rattle.std.proofs.Common.{◌≡◌, drop}
use Rattle.mdv_votes.specs.Family.{place_at as spec_place_at}
use Rattle.mdv_votes.proofs.places.place_at.Given as goal

-- what was passed is no answer
abbrev pub invariant-loop-place : goal.invariant-loop-place
invariant-loop-place l = spec_place_at l.places l.p ≡ spec_place_at (drop l.place-index l.places) l.p
