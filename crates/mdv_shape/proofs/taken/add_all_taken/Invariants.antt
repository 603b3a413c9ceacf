use Rattle.std.proofs.Common.{◌≡◌, ◌++◌, take}
use Rattle.mdv_shape.specs.Seats.{part_taken, side_by_side}
use Rattle.mdv_shape.proofs.taken.add_all_taken.Given as goal

abbrev pub invariant-loop-i : goal.invariant-loop-i
invariant-loop-i l = l.list.items ≡ l.initial.list.items ++ side_by_side part_taken (take l.i l.components) (take l.i l.parts)
