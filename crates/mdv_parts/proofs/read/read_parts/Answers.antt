use Rattle.std.proofs.Common.{sym, subst}
use Rattle.mdv_parts.proofs.Reading.{ReadSoFar, read_more, read_none}
use Rattle.mdv_parts.proofs.read.read_parts.Goals as goal

pub returns-in_default-read_part : goal.returns-in_default-read_part
returns-in_default-read_part c = read_none _ _ _ _ _ _ c.loop-word.invariant c.in-Some.ensures.word.words c.in_default-read_part.ensures.none

pub loop-word-preserved : goal.loop-word-preserved
loop-word-preserved c =
    subst (ReadSoFar _ _ _) (sym c.in_ok-push.ensures.ok) (read_more _ _ _ _ _ _ _ c.loop-word.invariant c.in-Some.ensures.word.words c.in-Some-read_part.ensures.value)
