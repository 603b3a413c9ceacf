use Rattle.std.proofs.Common.{sym, subst, ◌∙◌}
use Rattle.mdv_extent.specs.Free.{IsFree}
use Rattle.mdv_extent.proofs.Sweeping.{gaps_are_free, row_from_sorted, last_gap}
use Rattle.mdv_extent.proofs.free.gaps.Goals as goal

pub returns : goal.returns
returns c =
    subst (IsFree c.args.blocks c.args.used.now)
    (sym (c.in_ok-push_between-2.ensures ∙ last_gap c.loop-run.next c.args.blocks c.loop-run.run-index c.args.used.now c.loop-run.free.items _ c.loop-run.invariant c.loop-run-test.false))
    (gaps_are_free c.args.blocks c.args.used.now (row_from_sorted c.args.blocks c.args.used.now c.requires.used c.requires.order))
