use Rattle.mdv_fields.proofs.Placing.{laid_then}
use Rattle.mdv_codec.specs.Record.{front_text}
use Rattle.mdv_whole.proofs.encoding.lay_front.Goals as goal

pub returns : goal.returns
unfolding front_text
returns c = laid_then c.lay-used.ensures (laid_then c.lay-used-2.ensures (rw c.as_slice.ensures.value at c.lay_short.ensures))
