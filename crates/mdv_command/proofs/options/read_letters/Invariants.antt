use Rattle.std.proofs.Common.{length}
use Rattle.mdv_text.specs.Words.{words}
use Rattle.mdv_command.proofs.Reading.{LettersSoFar}
use Rattle.mdv_command.proofs.options.read_letters.Given as goal

abbrev pub invariant-loop-rest : goal.invariant-loop-rest
invariant-loop-rest l = LettersSoFar l.flags l.values l.letters l.rest (words l.behind) l.initial.given l.given

abbrev pub decreases-loop-rest : goal.decreases-loop-rest
decreases-loop-rest l = length l.rest
