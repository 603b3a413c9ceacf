use Rattle.mdv_fields.proofs.Placing.{laid_then}
use Rattle.mdv_codec.specs.Recorded.{submirror_text}
use Rattle.mdv_codec.proofs.parts.RecordedSubmirrorSpelled.lay.Goals as goal

pub returns : goal.returns
unfolding submirror_text
returns c = laid_then c.lay-used.ensures c.lay.ensures
