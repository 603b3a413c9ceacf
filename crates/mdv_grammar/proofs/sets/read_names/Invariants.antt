use Rattle.std.proofs.Common.{length}
use Rattle.mdv_text.specs.Words.{words}
use Rattle.mdv_grammar.proofs.Hosts.{NamesSoFar}
use Rattle.mdv_grammar.proofs.sets.read_names.Given as goal

abbrev pub invariant-loop-word : goal.invariant-loop-word
invariant-loop-word l = NamesSoFar (words l.text) (words l.rest) l.names

abbrev pub decreases-loop-word : goal.decreases-loop-word
decreases-loop-word l = length l.rest
