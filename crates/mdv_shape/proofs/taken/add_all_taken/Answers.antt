use Rattle.std.proofs.Common.{arith}
use Rattle.mdv_shape.specs.Seats.{part_taken}
use Rattle.mdv_shape.proofs.Beside.{side_added, side_done}
use Rattle.mdv_shape.proofs.taken.add_all_taken.Goals as goal

pub loop-i-preserved : goal.loop-i-preserved
loop-i-preserved c = side_added part_taken c.args.list.now.items c.loop-i.list.items c.add_taken.new.list.items c.args.components.now c.args.parts.now c.loop-i.i _ _ (omega (arith, c.min-i-end.ensures)) (omega (arith, c.min-i-end.ensures)) c.loop-i.invariant c.in_ok-add_taken.ensures

pub returns : goal.returns
returns c = side_done part_taken c.args.list.now.items c.loop-i.list.items c.args.components.now c.args.parts.now c.loop-i.i (omega (arith, c.min-i-end.ensures)) c.loop-i.invariant
