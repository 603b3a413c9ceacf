use Rattle.mdv_base.proofs.Members.{no_member}
use Rattle.mdv_base.proofs.drive_set.DriveSet.new.Goals as goal

pub returns-clause-none : goal.returns-clause-none
returns-clause-none c = λ drive. no_member 256 drive.0
