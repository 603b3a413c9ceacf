-- The map and the names beside the list of drives.
use Rattle.std.specs.Prelude.{◌≡◌, ◌≤◌, ℕ, Option, None, Some, List, map, length, All, slice_get}
use Rattle.std.specs.List.{filter_map}
use Rattle.std.specs.Option.{option_map}
use Rattle.std.specs.BTreeMap.{BTreeMap}
use Rattle.mdv_base.specs.declared.drive.DriveName.{DriveName}
use Rattle.mdv_base.specs.Name.{IsName}
use Rattle.mdv_name.specs.declared.drive_line.DriveLine.{DriveLine}
use Rattle.mdv_name.specs.declared.drive_line.DriveKind.{DriveKind}
use Rattle.mdv_name.specs.declared.drive_line.DriveKind.TheVariants.{Own, Shared, Mediator}
use Rattle.mdv_name.specs.Code.{drive_code}
use Rattle.mdv_name.specs.Drive.{IsDriveName}
use Rattle.mdv_name.specs.Index.{HasPlaces}

-- the name of a host's or a shared drive; a mediator's store has none
abbrev pub drive_of : DriveKind → Option DriveName
drive_of (Own drive host) = Some drive
drive_of (Shared drive) = Some drive
drive_of (Mediator host) = None

-- the host of a mediator's store
abbrev pub mediator_of : DriveKind → Option (List ℕ)
mediator_of (Own drive host) = None
mediator_of (Shared drive) = None
mediator_of (Mediator host) = Some host

-- the numbers and names of a kind are in range
abbrev pub IsNamed : DriveKind → Type 0
IsNamed (Own drive host) = IsDriveName drive × IsName host
IsNamed (Shared drive) = IsDriveName drive
IsNamed (Mediator host) = IsName host

abbrev pub named_drive : DriveLine → Option DriveName
named_drive l = drive_of l.kind

-- the n-th line is of the drive of this name
abbrev pub IsDriveAt : List DriveLine → ℕ → DriveName → Type 0
IsDriveAt lines n name = slice_get (map named_drive lines) n ≡ Some (Some name)

abbrev pub HasNoDrive : List DriveLine → DriveName → Type 0
HasNoDrive lines name = (n : ℕ) → IsDriveAt lines n name → ⊥

-- and no other line is
abbrev pub IsOnlyDriveAt : List DriveLine → ℕ → DriveName → Type 0
IsOnlyDriveAt lines n name = IsDriveAt lines n name × ((m : ℕ) → IsDriveAt lines m name → m ≡ n)

abbrev pub mediator_hosts : List DriveLine → List (List ℕ)
mediator_hosts lines = filter_map (λ l. mediator_of l.kind) lines

abbrev pub code_of : DriveLine → Option ℕ
code_of l = option_map drive_code (drive_of l.kind)

-- each drive's code has a place, at which the drive stands, and each mediator's host is among the names
pub record IsDriveIndex (places : BTreeMap ℕ ℕ) (mediators : List (List ℕ)) (lines : List DriveLine) : Type 0 where
  pub forms : All (λ l. IsNamed l.kind) lines
  pub few : length lines ≤ 256
  pub found : HasPlaces places (map code_of lines)
  pub hosts : mediators ≡ mediator_hosts lines
