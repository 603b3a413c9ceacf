use Rattle.std.proofs.Common.{take}
use Rattle.mdv_fitting.specs.Slices.{AreAt}
use Rattle.mdv_fitting.proofs.slices.slices_from.Given as goal

abbrev pub invariant-loop-line : goal.invariant-loop-line
invariant-loop-line l = AreAt (take l.line-index l.lines) l.slices
