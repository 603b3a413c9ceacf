use Rattle.mdv_fields.proofs.Placing.{laid_then}
use Rattle.mdv_codec.specs.Recorded.{soft_text}
use Rattle.mdv_whole.proofs.kinds.lay_soft.Goals as goal

pub returns : goal.returns
unfolding soft_text
returns c = laid_then c.lay-used.ensures (laid_then c.lay-used-2.ensures (rw c.as_slice.ensures.value at c.lay_short.ensures))
