use Rattle.mdv_fitting.proofs.Slicing.{lines_step}
use Rattle.mdv_fitting.proofs.slices.slices_from.Goals as goal

pub loop-line-preserved : goal.loop-line-preserved
loop-line-preserved c = lines_step c.loop-line.slices c.add_line.new.slices c.args.lines.now c.loop-line.line-index _ c.loop-line-test.true c.loop-line.invariant c.in_ok-add_line.ensures
