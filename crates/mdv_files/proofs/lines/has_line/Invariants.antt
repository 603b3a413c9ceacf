use Rattle.std.proofs.Common.{length, Contains, ◌↔◌}
use Rattle.mdv_name.specs.Lines.{lines}
use Rattle.mdv_files.proofs.lines.has_line.Given as goal

abbrev pub invariant-loop-line : goal.invariant-loop-line
invariant-loop-line l = Contains (lines l.text) l.line ↔ Contains (lines l.rest) l.line

abbrev pub decreases-loop-line : goal.decreases-loop-line
decreases-loop-line l = length l.rest
