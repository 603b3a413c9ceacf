use Rattle.std.proofs.Common.{◌≡◌}
use Rattle.mdv_notes.specs.Parts.{part_resumed}
use Rattle.mdv_notes.proofs.Walks.{walked}
use Rattle.mdv_notes.proofs.parts.resume_parts.Given as goal

abbrev pub invariant-loop-part : goal.invariant-loop-part
invariant-loop-part l = l.parts ≡ walked (λ k. part_resumed l.dirty) 0 l.part-index l.initial.parts
