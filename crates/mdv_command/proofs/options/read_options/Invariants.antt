use Rattle.std.proofs.Common.{length}
use Rattle.mdv_text.specs.Words.{words}
use Rattle.mdv_command.proofs.Reading.{OptionsSoFar}
use Rattle.mdv_command.proofs.options.read_options.Given as goal

abbrev pub invariant-loop-word : goal.invariant-loop-word
invariant-loop-word l = OptionsSoFar l.flags l.values (words l.text) (words l.rest) l.given

abbrev pub decreases-loop-word : goal.decreases-loop-word
decreases-loop-word l = length (words l.rest)
