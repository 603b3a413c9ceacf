-- The words of the crates below in which this crate speaks, so that a file of it needs one line of import.
pub use Rattle.mdv_base.specs.Causes.{Failures}
pub use Rattle.mdv_base.specs.DriveSet.{Drives, has_drive}
pub use Rattle.mdv_base.specs.declared.drive.DriveNo.{DriveNo}
pub use Rattle.mdv_name.specs.declared.geometry.Geometry.{Geometry}
pub use Rattle.mdv_name.specs.declared.slice_lines.SliceLine.{SliceLine}
pub use Rattle.mdv_shelf.specs.Area.{Area, KeptOutside, nowhere}
pub use Rattle.mdv_shelf.specs.Settle.{IsSynced}
pub use Rattle.mdv_shelf.specs.Tale.{Synced, Tale, Then, last, told}
pub use Rattle.mdv_shelf.specs.declared.shelf.Shelf.{Ghosts}
pub use Rattle.mdv_shown.specs.declared.site.Site.{Site}
