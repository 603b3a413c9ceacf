-- The drives of a table, and which of them are a host's own.
use Rattle.std.specs.Prelude.{◌≡◌, ◌↔◌, ℕ, ◌+◌, Bool, false, Some, List, [], ◌∷◌, map, Contains, if◌then◌else◌, slice_get}
use Rattle.std.specs.Str.{bytes_eq}
use Rattle.mdv_base.specs.declared.drive.DriveName.{DriveName}
use Rattle.mdv_base.specs.declared.drive.DriveNo.{DriveNo}
use Rattle.mdv_base.specs.declared.drive.SliceName.{SliceName}
use Rattle.mdv_name.specs.declared.drive_line.DriveKind.{DriveKind}
use Rattle.mdv_name.specs.declared.drive_line.DriveKind.TheVariants.{Own, Shared, Mediator}
use Rattle.mdv_name.specs.declared.drive_line.DriveLine.{DriveLine}
use Rattle.mdv_name.specs.declared.geometry.Geometry.{Geometry}
use Rattle.mdv_name.specs.Geometry.{IsGeometry as IsTable}
use Rattle.mdv_name.specs.SliceIndex.{HasSlice}
use Rattle.mdv_name.specs.declared.slice_lines.SliceAt.{SliceAt}
use Rattle.mdv_shelf.specs.Calls.{InDrive}
use Rattle.mdv_shelf.specs.Drives.{AreDrives}

-- how many blocks each drive has, in the order of the lines
abbrev pub sizes_of : Geometry → List ℕ
sizes_of table = map (λ line. line.blocks) table.drives

abbrev pub is_own : List ℕ → DriveKind → Bool
is_own host (Own drive owner) = bytes_eq owner host
is_own host (Shared drive) = false
is_own host (Mediator other) = false

-- the numbers, from this one on, of the drives that are the host's own
abbrev pub own_from : ℕ → List ℕ → List DriveLine → List DriveNo
own_from number host [] = []
own_from number host (line ∷ lines) = if is_own host line.kind then record { 0 = number } ∷ own_from (number + 1) host lines else own_from (number + 1) host lines

abbrev pub own_drives : Geometry → List ℕ → List DriveNo
own_drives table host = own_from 0 host table.drives

-- the drive of this number is the host's own
pub record IsOwnDrive (table : Geometry) (host : List ℕ) (drive : DriveNo) : Type 0 where
  pub line : DriveLine
  pub place : slice_get table.drives drive.0 ≡ Some line
  pub name : DriveName
  pub own : line.kind ≡ Own name host

-- They are the drives of which this is so, and no other host's; in a table that was read each of them has a block.
pub record OwnDrives : Type 0 where
  pub own : (table : Geometry) (host : List ℕ) (drive : DriveNo) → Contains (own_drives table host) drive ↔ IsOwnDrive table host drive
  pub one : (table : Geometry) (host other : List ℕ) (drive : DriveNo) → Contains (own_drives table host) drive → Contains (own_drives table other) drive → host ≡ other
  pub drives : (text : List ℕ) (table : Geometry) (host : List ℕ) → IsTable text table → AreDrives (sizes_of table) (own_drives table host)

-- each slice of a table that was read, of whichever drive, has a block and ends within its drive
abbrev pub SlicesWithin : Type 0
SlicesWithin = (text : List ℕ) (table : Geometry) (name : SliceName) (at : SliceAt) → IsTable text table → HasSlice table.slices name at → InDrive (sizes_of table) at.drive.0 at.start at.blocks
