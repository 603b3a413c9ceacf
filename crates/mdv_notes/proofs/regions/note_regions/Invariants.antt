use Rattle.std.proofs.Common.{◌≡◌, ◌*◌}
use Rattle.mdv_notes.specs.Regions.{byte_noted}
use Rattle.mdv_notes.proofs.Walks.{walked}
use Rattle.mdv_notes.proofs.regions.note_regions.Given as goal

abbrev pub invariant-loop-place : goal.invariant-loop-place
invariant-loop-place l = l.bytes ≡ walked (λ k b. byte_noted l.range l.dirty (8 * k) b) 0 l.place l.initial.bytes
