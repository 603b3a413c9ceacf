use Rattle.mdv_volumes.proofs.Standing.{frames_stand}
use Rattle.mdv_volumes.proofs.law.frames_stand.Goals as goal

pub returns : goal.returns
returns c = frames_stand
