-- Sets of drives, as contracts see them.
use Rattle.std.specs.Prelude.{Bool, false, List, replicate, slice_index_or}
use Rattle.mdv_base.specs.declared.drive.DriveNo.{DriveNo}

-- for each drive, in the order of their numbers, whether it is in the set; no drive behind these is
abbrev pub Drives : Type 0
Drives = List Bool

-- none of them
abbrev pub no_drives : Drives
no_drives = replicate 256 false

abbrev pub has_drive : Drives → DriveNo → Bool
has_drive set drive = slice_index_or set drive.0 false
