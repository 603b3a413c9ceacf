use Rattle.std.proofs.Common.{length}
use Rattle.mdv_text.proofs.Tokens.{SplitSoFar}
use Rattle.mdv_text.proofs.token.split_ascii.Given as goal

abbrev pub invariant-loop-word : goal.invariant-loop-word
invariant-loop-word l = SplitSoFar l.line l.rest l.tokens.items

abbrev pub decreases-loop-word : goal.decreases-loop-word
decreases-loop-word l = length l.rest
