use Rattle.std.proofs.Common.{sym, ◌∙◌}
use Rattle.mdv_extent.proofs.Standing.{stand_stops, stand_ends, stand_tells}
use Rattle.mdv_extent.proofs.apart.stand_apart.Goals as goal

pub returns-then-not-is_behind : goal.returns-then-not-is_behind
returns-then-not-is_behind c =
    stand_tells c.args.blocks c.args.extents.now _ c.requires (sym c.loop-run.invariant ∙ stand_stops c.loop-run.end c.args.blocks c.loop-run.run-index c.args.extents.now _ c.loop-run-test.true (sym c.if-not-is_behind.ensures))

pub returns : goal.returns
returns c = stand_tells c.args.blocks c.args.extents.now _ c.requires (sym c.loop-run.invariant ∙ stand_ends c.loop-run.end c.args.blocks c.loop-run.run-index c.args.extents.now c.loop-run-test.false)
