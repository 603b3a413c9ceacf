-- How many calls it takes to bring the drives of a host up.
use Rattle.std.specs.Prelude.{ℕ, ◌+◌, ◌*◌, ◌≤◌, List, length, count_by}
use Rattle.mdv_base.specs.declared.drive.DriveNo.{DriveNo}
use Rattle.mdv_base.specs.DriveSet.{Drives, has_drive}

-- So many calls brought these drives up: two for each that is up, and one or two for each that is not, whose sync is left out where the read failed.
pub record BroughtUpBy (drives : List DriveNo) (up : Drives) (calls : ℕ) : Type 0 where
  pub least : length drives + count_by (has_drive up) drives ≤ calls
  pub most : calls ≤ 2 * length drives
