use Rattle.mdv_fields.proofs.Placing.{laid_then}
use Rattle.mdv_codec.specs.Recorded.{spare_part_text}
use Rattle.mdv_codec.proofs.parts.RecordedSpareSpelled.lay.Goals as goal

pub returns : goal.returns
unfolding spare_part_text
returns c = laid_then c.lay-used.ensures c.lay.ensures
