-- The words of the crates below in which this crate speaks, so that a file of it needs one line of import.
pub use Rattle.mdv_base.specs.declared.drive.DriveName.{DriveName}
pub use Rattle.mdv_base.specs.declared.drive.SliceName.{SliceName}
pub use Rattle.mdv_base.specs.declared.name.PoolId.{PoolId}
pub use Rattle.mdv_base.specs.declared.name.VolId.{VolId}
pub use Rattle.mdv_base.specs.declared.place.Place.{Place}
pub use Rattle.mdv_extent.specs.declared.run.Run.{Run}
pub use Rattle.mdv_name.specs.SliceIndex.{HasNoSlice, HasSlice}
pub use Rattle.mdv_name.specs.declared.geometry.Geometry.{Geometry}
pub use Rattle.mdv_name.specs.declared.slice_lines.SliceAt.{SliceAt}
pub use Rattle.mdv_name.specs.declared.slice_lines.SliceLine.{SliceLine}
