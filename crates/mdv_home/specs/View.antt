-- What a host sees of a table of drives: of the slices those that lie on the host's own drives.
use Rattle.std.specs.Prelude.{◌↔◌, ℕ, List, Contains}
use Rattle.mdv_base.specs.declared.drive.DriveNo.{DriveNo}
use Rattle.mdv_base.specs.declared.drive.SliceName.{SliceName}
use Rattle.mdv_name.specs.declared.geometry.Geometry.{Geometry}
use Rattle.mdv_name.specs.declared.slice_lines.SliceAt.{SliceAt}
use Rattle.mdv_name.specs.SliceIndex.{HasSlice, slices_on}
use Rattle.mdv_name.specs.Sound.{IsSound}
use Rattle.mdv_home.specs.Drives.{own_drives}

-- the table with those alone of its slices that lie on these drives
abbrev pub view_on : List DriveNo → Geometry → Geometry
view_on drives table = record table { slices = slices_on drives table.slices }

abbrev pub own_view : Geometry → List ℕ → Geometry
own_view table host = view_on (own_drives table host) table

-- a slice is seen exactly where it is one of the table, on a drive of the host's own; and what is seen of a sound table is sound
pub record ViewIsOwn : Type 0 where
  pub seen : (table : Geometry) (host : List ℕ) (name : SliceName) (at : SliceAt) → HasSlice (own_view table host).slices name at ↔ (HasSlice table.slices name at × Contains (own_drives table host) at.drive)
  pub sound : (table : Geometry) (host : List ℕ) → IsSound table → IsSound (own_view table host)
