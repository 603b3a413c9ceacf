use Rattle.std.proofs.Common.{◌∙◌, ◌*◌, ℕ, ap, set, arith}
use Rattle.mdv_notes.specs.Regions.{byte_noted}
use Rattle.mdv_notes.proofs.Walks.{walked_more, walked_regions}
use Rattle.mdv_notes.proofs.regions.note_regions.Goals as goal

pub loop-place-preserved : goal.loop-place-preserved
loop-place-preserved c =
    ap (λ (b : ℕ). set c.loop-place.bytes c.loop-place.place b) c.byte_noted.ensures
    ∙ walked_more (λ k b. byte_noted c.args.range c.args.dirty (8 * k) b) c.loop-place.place 0 c.args.bytes.now c.loop-place.bytes c.loop-place.invariant c.loop-place-test.true

pub returns : goal.returns
returns c = c.loop-place.invariant ∙ walked_regions c.args.range c.args.dirty 0 0 c.loop-place.place c.args.bytes.now (omega arith) c.loop-place-test.false
