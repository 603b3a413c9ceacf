use Rattle.std.proofs.Common.{◌≡◌, take}
use Rattle.mdv_store_tests.proofs.numbered.same_places.Given as goal

abbrev pub invariant-loop-place : goal.invariant-loop-place
invariant-loop-place l = l.same ≡ take l.place-index l.place-items
