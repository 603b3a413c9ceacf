use Rattle.std.proofs.Common.{sym, arith}
use Rattle.mdv_copies.proofs.Stretches.{bare_none, bare_some}
use Rattle.mdv_copies.proofs.copies.has_bare.Goals as goal

pub returns-then-run-eq0 : goal.returns-then-run-eq0
returns-then-run-eq0 c =
    sym (bare_some c.args.table.now c.args.volumes.now c.loop-block.block c.run_of_any-run.result c.args.blocks c.run_of_any-run.ensures c.if-run-eq0.true c.loop-block-test.true)

pub loop-block-preserved : goal.loop-block-preserved
loop-block-preserved c =
    record {
      within = omega (arith, c.min-block.ensures);
      none = bare_none c.args.table.now c.args.volumes.now c.loop-block.block c.run_of_any-run.result c.min-block.result c.loop-block.invariant.none c.run_of_any-run.ensures (omega (arith, c.min-block.ensures, c.saturating_add.ensures));
    }
