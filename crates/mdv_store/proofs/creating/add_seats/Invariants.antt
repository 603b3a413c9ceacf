use Rattle.std.proofs.Common.{◌≡◌, ◌++◌}
use Rattle.mdv_store.specs.Create.{seats_on}
use Rattle.mdv_store.proofs.creating.add_seats.Given as goal

abbrev pub invariant-loop-number : goal.invariant-loop-number
invariant-loop-number l = l.seats ≡ l.fn.seats ++ seats_on l.key l.identity l.line l.count l.blocks 0 l.number
