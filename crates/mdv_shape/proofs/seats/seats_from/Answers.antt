use Rattle.mdv_shape.proofs.Firsts.{firsts_more}
use Rattle.mdv_shape.proofs.seats.seats_from.Goals as goal

pub loop-spare-preserved : goal.loop-spare-preserved
loop-spare-preserved c = firsts_more c.args.spares.now c.loop-spare.spare-index _ c.loop-spare.seats c.add_seat.new.seats c.loop-spare-test.true c.loop-spare.invariant c.in_ok-add_seat.ensures
