use Rattle.std.proofs.Common.{length}
use Rattle.mdv_text.specs.Words.{words}
use Rattle.mdv_grammar.proofs.Hosts.{DrivesSoFar}
use Rattle.mdv_grammar.proofs.sets.read_drives.Given as goal

abbrev pub invariant-loop-word : goal.invariant-loop-word
invariant-loop-word l = DrivesSoFar (words l.text) (words l.rest) l.drives

abbrev pub decreases-loop-word : goal.decreases-loop-word
decreases-loop-word l = length l.rest
