use Rattle.mdv_layout_law.proofs.Telling.{volumes_tell}
use Rattle.mdv_layout_law.proofs.law.volumes_tell.Goals as goal

pub returns : goal.returns
returns c = volumes_tell
