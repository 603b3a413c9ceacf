use Rattle.mdv_fields.proofs.Placing.{laid_then}
use Rattle.mdv_codec.specs.Recorded.{options_text}
use Rattle.mdv_codec.proofs.parts.RecordedOptionsSpelled.lay.Goals as goal

pub returns : goal.returns
unfolding options_text
returns c = laid_then c.lay-used.ensures (laid_then c.lay-used-2.ensures c.lay.ensures)
