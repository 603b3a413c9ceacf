use Rattle.std.proofs.Common.{length}
use Rattle.mdv_text.proofs.Pairs.{ReadSoFar}
use Rattle.mdv_text.proofs.hex.read_block.Given as goal

abbrev pub invariant-loop-rest : goal.invariant-loop-rest
invariant-loop-rest l = ReadSoFar l.hex l.rest l.block l.len

abbrev pub decreases-loop-rest : goal.decreases-loop-rest
decreases-loop-rest l = length l.rest
