use Rattle.mdv_fields.proofs.Placing.{laid_then}
use Rattle.mdv_codec.specs.Recorded.{part_text}
use Rattle.mdv_codec.proofs.parts.RecordedPartSpelled.lay.Goals as goal

pub returns : goal.returns
unfolding part_text
returns c = laid_then c.lay-used.ensures c.lay.ensures
