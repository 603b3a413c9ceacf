-- The numbers by which drives and slices are looked up.
use Rattle.std.specs.Prelude.{ℕ, ◌+◌, ◌*◌}
use Rattle.mdv_base.specs.declared.drive.DriveName.{DriveName}
use Rattle.mdv_base.specs.declared.drive.SliceName.{SliceName}

abbrev pub drive_code : DriveName → ℕ
drive_code d = d.controller * 65536 + d.target * 256 + d.disk

abbrev pub slice_code : SliceName → ℕ
slice_code s = drive_code s.drive * 256 + s.slice
