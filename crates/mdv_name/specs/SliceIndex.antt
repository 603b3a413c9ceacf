-- The map beside the list of slices.
use Rattle.std.specs.Prelude.{ℕ, Bool, ◌==◌, ◌&&◌, if◌then◌else◌, Option, None, Some, List, [], ◌∷◌, filter, map, All, Contains}
use Rattle.std.specs.List.{list_any}
use Rattle.std.specs.BTreeMap.{BTreeMap}
use Rattle.mdv_base.specs.declared.drive.DriveNo.{DriveNo}
use Rattle.mdv_base.specs.declared.drive.SliceName.{SliceName}
use Rattle.mdv_name.specs.declared.slice_lines.SliceAt.{SliceAt}
use Rattle.mdv_name.specs.declared.slice_lines.SliceLine.{SliceLine}
use Rattle.mdv_name.specs.Code.{slice_code}
use Rattle.mdv_name.specs.Drive.{IsSliceName}
use Rattle.mdv_name.specs.Index.{HasPlaces}

abbrev pub code_of : SliceLine → Option ℕ
code_of l = Some (slice_code l.name)

-- a slice of the list has the name and lies there
abbrev pub HasSlice : List SliceLine → SliceName → SliceAt → Type 0
HasSlice lines name at = Contains lines (record { name = name; at = at })

abbrev pub HasNoSlice : List SliceLine → SliceName → Type 0
HasNoSlice lines name = (at : SliceAt) → HasSlice lines name at → ⊥

abbrev pub same_slice : SliceName → SliceName → Bool
same_slice a b = ((a.drive.controller == b.drive.controller) && (a.drive.target == b.drive.target)) && ((a.drive.disk == b.drive.disk) && (a.slice == b.slice))

-- where the first slice of this name lies
abbrev pub slice_at : List SliceLine → SliceName → Option SliceAt
slice_at [] name = None
slice_at (line ∷ lines) name = if same_slice line.name name then Some line.at else slice_at lines name

-- each slice's code has a place, at which the slice stands
pub record IsSliceIndex (places : BTreeMap ℕ ℕ) (lines : List SliceLine) : Type 0 where
  pub forms : All (λ l. IsSliceName l.name) lines
  pub found : HasPlaces places (map code_of lines)

-- the drive is one of these
abbrev pub is_among : List DriveNo → DriveNo → Bool
is_among drives drive = list_any (λ d. d.0 == drive.0) drives

-- the slices that lie on these drives
abbrev pub slices_on : List DriveNo → List SliceLine → List SliceLine
slices_on drives lines = filter (λ line. is_among drives line.at.drive) lines
