use Rattle.std.proofs.Common.{◌≡◌, take}
use Rattle.mdv_config.proofs.each.EachPlace.of.Given as goal

abbrev pub invariant-loop-place : goal.invariant-loop-place
invariant-loop-place l = l.each ≡ take l.place-index l.places
