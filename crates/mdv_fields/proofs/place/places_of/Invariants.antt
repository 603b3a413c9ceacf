use Rattle.std.proofs.Common.{◌≡◌, take}
use Rattle.mdv_fields.proofs.place.places_of.Given as goal

abbrev pub invariant-loop-place : goal.invariant-loop-place
invariant-loop-place l = l.places ≡ take l.place-index l.place-items
