use Rattle.std.proofs.Common.{◌≡◌, map, take}
use Rattle.mdv_store.proofs.creating.table_asked.Given as goal

abbrev pub invariant-loop-seat : goal.invariant-loop-seat
invariant-loop-seat l = l.places ≡ map (λ s. s.place) (take l.seat-index l.seats)
