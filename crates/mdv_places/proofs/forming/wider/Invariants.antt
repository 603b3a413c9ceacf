use Rattle.std.proofs.Common.{◌≡◌, ◌++◌, map, take}
use Rattle.mdv_places.specs.Asked.{claims}
use Rattle.mdv_places.proofs.forming.wider.Given as goal

abbrev pub invariant-loop-seat : goal.invariant-loop-seat
invariant-loop-seat l = l.seats ≡ l.store.seats ++ map (claims l.claim) (take l.seat-index l.seat-items)
