use Rattle.mdv_shown.proofs.Worlds.{law_frames}
use Rattle.mdv_shown.proofs.law.frames.Goals as goal

pub returns : goal.returns
returns g c = law_frames _
