use Rattle.std.proofs.Common.{◌≡◌, ◌++◌}
use Rattle.mdv_places.specs.Asked.{places_from}
use Rattle.mdv_places.proofs.asked.add_places.Given as goal

abbrev pub invariant-loop-number : goal.invariant-loop-number
invariant-loop-number l = l.list ≡ l.fn.list ++ places_from l.slice l.blocks 0 l.number
