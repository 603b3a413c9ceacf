use Rattle.mdv_fields.proofs.Placing.{laid_then}
use Rattle.mdv_codec.specs.Recorded.{mirror_text}
use Rattle.mdv_whole.proofs.kinds.lay_mirror.Goals as goal

pub returns : goal.returns
unfolding mirror_text
returns c =
    rw (c.as_slice.ensures.value, c.offline_of.ensures, c.dirty_of.ensures) at (laid_then c.lay_options-used.ensures (laid_then c.lay_submirrors-used.ensures (laid_then c.lay-used.ensures c.lay.ensures)))
