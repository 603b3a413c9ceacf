use Rattle.mdv_fields.proofs.Placing.{laid_then}
use Rattle.mdv_codec.specs.Recorded.{volume_text}
use Rattle.mdv_whole.proofs.volumes.VolumeBesideVolumeStatus.lay_with.Goals as goal

pub returns : goal.returns
unfolding volume_text
returns c = laid_then c.lay-used.ensures c.lay_kind.ensures
