use Rattle.mdv_name.proofs.Sound.{sound_geometry}
use Rattle.mdv_name.proofs.law.read_geometries_are_sound.Goals as goal

pub returns : goal.returns
returns c = sound_geometry
