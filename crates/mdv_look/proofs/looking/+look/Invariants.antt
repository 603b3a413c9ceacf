use Rattle.std.specs.Prelude.{count_by}
use Rattle.mdv_base.specs.DriveSet.{has_drive}
use Rattle.mdv_look.proofs.looking.+look.Given as goal

abbrev pub decreases-look : goal.decreases-look
decreases-look g l = count_by (has_drive l.up.now) l.site.now.drives
