use Rattle.mdv_tab.proofs.Queues.{pushed_more}
use Rattle.mdv_tab.proofs.making.add_all.Goals as goal

pub loop-place-preserved : goal.loop-place-preserved
loop-place-preserved c = pushed_more c.args.queue.now c.args.places.now _ _ c.loop-place.place-index c.loop-place-test.true c.loop-place.invariant c.in_ok-push.ensures
