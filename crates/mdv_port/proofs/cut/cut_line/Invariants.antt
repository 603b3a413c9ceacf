use Rattle.std.proofs.Common.{◌≡◌, ◌≤◌, ◌-◌, ℕ, List, Some, None}
use Rattle.mdv_port.specs.Reader.{to_come}
use Rattle.mdv_port.proofs.Cutting.{SoFar}
use Rattle.mdv_port.proofs.cut.cut_line.Given as goal

abbrev pub invariant-loop-chunk : goal.invariant-loop-chunk
invariant-loop-chunk g l = record {
  told : (input : List ℕ) → to_come l.initial.chunk (g.I.Source.left l.initial.source) ≡ Some input → SoFar input l.length l.line (to_come l.chunk (g.I.Source.left l.source));
  silent : g.I.Source.left l.initial.source ≡ None → g.I.Source.left l.source ≡ None;
  within : l.length ≤ l.room;
  calm : g.I.Source.faults l.source ≡ g.I.Source.faults l.initial.source;
}

abbrev pub decreases-loop-chunk : goal.decreases-loop-chunk
decreases-loop-chunk g l = l.room - l.length
