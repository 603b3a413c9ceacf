use Rattle.std.proofs.Common.{◌≡◌, ◌++◌, take}
use Rattle.std.specs.Prelude.{map}
use Rattle.mdv_plan.specs.Uses.{place_use}
use Rattle.mdv_plan.proofs.uses.Uses.add_places.Given as goal

abbrev pub invariant-loop-place : goal.invariant-loop-place
invariant-loop-place l = l.self ≡ l.initial.self ++ map place_use (take l.place-index l.place-items)
