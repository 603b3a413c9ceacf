use Rattle.mdv_fields.proofs.Placing.{laid_then}
use Rattle.mdv_codec.specs.Record.{body_text}
use Rattle.mdv_whole.proofs.encoding.lay_body.Goals as goal

pub returns : goal.returns
unfolding body_text
returns c =
    rw (c.as_slice.ensures.value, c.as_slice-2.ensures.value, c.as_slice-3.ensures.value) at (laid_then c.lay_front-used.ensures (laid_then c.lay_pools-used.ensures c.lay_volumes.ensures))
