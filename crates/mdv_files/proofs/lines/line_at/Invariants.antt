use Rattle.std.proofs.Common.{◌≡◌, ◌-◌, slice_get}
use Rattle.mdv_name.specs.Lines.{lines}
use Rattle.mdv_files.proofs.lines.line_at.Given as goal

abbrev pub invariant-loop-before : goal.invariant-loop-before
invariant-loop-before l = slice_get (lines l.text) (l.number - 1) ≡ slice_get (lines l.rest) l.before

abbrev pub decreases-loop-before : goal.decreases-loop-before
decreases-loop-before l = l.before
