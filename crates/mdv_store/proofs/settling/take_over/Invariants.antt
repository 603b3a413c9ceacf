use Rattle.std.proofs.Common.{◌≡◌, ◌++◌, length, map, take, drop}
use Rattle.mdv_store.specs.Settled.{seat_now}
use Rattle.mdv_store.specs.declared.seats.Seat.{Seat}
use Rattle.mdv_store.proofs.settling.take_over.Given as goal

abbrev pub invariant-loop-index : goal.invariant-loop-index
invariant-loop-index l = (l.now ≡ map (λ (s : Seat). seat_now l.fn.seats s.place) (take l.index l.fn.now) ++ drop l.index l.fn.now) × (l.index-end ≡ length l.fn.now)
