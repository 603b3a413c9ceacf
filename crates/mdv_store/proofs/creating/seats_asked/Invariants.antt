use Rattle.std.proofs.Common.{◌≡◌, take}
use Rattle.mdv_store.specs.Create.{seats_asked}
use Rattle.mdv_store.proofs.creating.seats_asked.Given as goal

abbrev pub invariant-loop-line : goal.invariant-loop-line
invariant-loop-line l = l.seats ≡ seats_asked l.key l.identity (take l.line-index l.lines) l.count l.blocks
