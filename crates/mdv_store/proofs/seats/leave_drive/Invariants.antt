use Rattle.std.proofs.Common.{◌≡◌, ◌++◌, length, map, take, drop}
use Rattle.mdv_store.specs.Passing.{left_on}
use Rattle.mdv_store.proofs.seats.leave_drive.Given as goal

abbrev pub invariant-loop-index : goal.invariant-loop-index
invariant-loop-index l = (l.seats ≡ map (left_on l.fn.drive) (take l.index l.fn.seats) ++ drop l.index l.fn.seats) × (l.index-end ≡ length l.fn.seats)
