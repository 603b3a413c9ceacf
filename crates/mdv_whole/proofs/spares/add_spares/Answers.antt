use Rattle.mdv_whole.proofs.Holding.{spares_more}
use Rattle.mdv_whole.proofs.spares.add_spares.Goals as goal

pub loop-spare-preserved : goal.loop-spare-preserved
loop-spare-preserved c =
    spares_more c.args.noted.now c.loop-spare.noted c.insert.new.self c.args.spares.now c.loop-spare.spare-index c.key.result _ c.noted_spare-state.result c.loop-spare-test.true c.noted_spare-state.ensures c.key.type_inv c.key.ensures c.in_ok-insert.ensures.entries c.loop-spare.invariant
