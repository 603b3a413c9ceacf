use Rattle.mdv_fitting.proofs.Climbing.{climb_step}
use Rattle.mdv_fitting.proofs.climb.climb.Goals as goal

pub loop-run-preserved : goal.loop-run-preserved
loop-run-preserved c =
    let told = c.is_behind.ensures c.if-not-is_behind.false in
    climb_step c.args.blocks c.args.end c.loop-run.last c.args.runs.now c.loop-run.run-index _ c.loop-run-test.true c.loop-run.invariant told.0 told.1
