use Rattle.std.proofs.Common.{arith}
use Rattle.mdv_copies.proofs.Stretches.{run_found, run_lost}
use Rattle.mdv_copies.proofs.runs.run_in.Goals as goal

pub returns-then-left-blocks : goal.returns-then-left-blocks
returns-then-left-blocks c =
    run_found c.args.rows.now c.args.parts.now c.args.block c.loop-rest.rest.now c.loop-rest.states.now c.loop-rest.left c.row-item.result c.row_run.result c.in-len1-up.len_at_least c.row-item.is c.loop-rest.invariant (omega (arith, c.if-left-blocks.true, c.row_blocks-blocks.ensures.value)) c.row_run.ensures.run c.row_run.ensures.within

pub returns : goal.returns
returns c = run_lost c.args.rows.now c.args.parts.now c.args.block c.loop-rest.rest.now c.loop-rest.states.now c.loop-rest.left c.in_default.len_below c.loop-rest.invariant
