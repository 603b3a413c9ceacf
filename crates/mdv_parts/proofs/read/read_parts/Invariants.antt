use Rattle.std.proofs.Common.{length}
use Rattle.mdv_text.specs.Words.{words}
use Rattle.mdv_parts.proofs.Reading.{ReadSoFar}
use Rattle.mdv_parts.proofs.read.read_parts.Given as goal

abbrev pub invariant-loop-word : goal.invariant-loop-word
invariant-loop-word l = ReadSoFar l.scope (words l.line) (words l.rest) l.parts

abbrev pub decreases-loop-word : goal.decreases-loop-word
decreases-loop-word l = length l.rest
