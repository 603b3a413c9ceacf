use Rattle.mdv_volumes.proofs.Standing.{reads_stand}
use Rattle.mdv_volumes.proofs.law.reads_stand.Goals as goal

pub returns : goal.returns
returns c = reads_stand
