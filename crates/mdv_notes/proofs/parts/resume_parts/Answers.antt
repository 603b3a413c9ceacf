use Rattle.std.proofs.Common.{◌∙◌, ap, set}
use Rattle.mdv_notes.specs.Below.{PartStatus}
use Rattle.mdv_notes.specs.Parts.{part_resumed}
use Rattle.mdv_notes.proofs.Walks.{walked_more, walked_map}
use Rattle.mdv_notes.proofs.parts.resume_parts.Goals as goal

pub loop-part-preserved : goal.loop-part-preserved
loop-part-preserved c =
    ap (λ (p : PartStatus). set c.loop-part.parts c.loop-part.part-index p) c.part_resumed.ensures
    ∙ walked_more (λ k. part_resumed c.args.dirty) c.loop-part.part-index _ c.args.parts.now c.loop-part.parts c.loop-part.invariant c.loop-part-test.true

pub returns : goal.returns
returns c = c.loop-part.invariant ∙ walked_map (part_resumed c.args.dirty) 0 c.loop-part.part-index c.args.parts.now c.loop-part-test.false
