use Rattle.std.proofs.Common.{sym, arith}
use Rattle.mdv_copies.specs.Copies.{is_bare_on}
use Rattle.mdv_copies.proofs.Stretches.{missed_none, missed_some}
use Rattle.mdv_copies.proofs.copies.has_bare_on.Goals as goal

pub returns-then-run-eq0 : goal.returns-then-run-eq0
returns-then-run-eq0 c =
    let test = is_bare_on c.args.table.now c.args.volumes.now c.args.volume c.args.on in
    sym (missed_some test c.loop-at.at c.kept_run-run.result c.args.blocks c.kept_run-run.ensures c.if-run-eq0.true c.loop-at-test.true)

pub loop-at-preserved : goal.loop-at-preserved
loop-at-preserved c =
    let test = is_bare_on c.args.table.now c.args.volumes.now c.args.volume c.args.on in
    record {
      within = omega (arith, c.min-at.ensures);
      none = missed_none test c.loop-at.at c.kept_run-run.result c.min-at.result c.loop-at.invariant.none c.kept_run-run.ensures (omega (arith, c.min-at.ensures, c.saturating_add.ensures));
    }
