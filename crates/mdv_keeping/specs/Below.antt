-- The words of the crates below in which this crate speaks, so that a file of it needs one line of import.
pub use Rattle.mdv_base.specs.declared.drive.DriveNo.{DriveNo}
pub use Rattle.mdv_base.specs.declared.drive.SliceName.{SliceName}
pub use Rattle.mdv_base.specs.declared.place.Place.{Place}
pub use Rattle.mdv_change.specs.Apply.{HasFault, IsMade}
pub use Rattle.mdv_change.specs.Change.{refusal_of}
pub use Rattle.mdv_change.specs.declared.change.Change.{Change}
pub use Rattle.mdv_change.specs.declared.change.Change.TheVariants.{AddRow, Clear, ClearAll, ClearBelow, MakeStripe}
pub use Rattle.mdv_components.specs.declared.asked.RowAsked.{RowAsked}
pub use Rattle.mdv_config.specs.Lists.{settled, with_lists}
pub use Rattle.mdv_config.specs.Slices.{IsSound}
pub use Rattle.mdv_config.specs.Table.{IsListsOf, IsOfGeometry}
pub use Rattle.mdv_name.specs.SliceIndex.{slice_at}
pub use Rattle.mdv_name.specs.declared.geometry.Geometry.{Geometry}
pub use Rattle.mdv_name.specs.declared.slice_lines.SliceAt.{SliceAt}
pub use Rattle.mdv_plan.specs.declared.lists.Lists.{Lists}
pub use Rattle.mdv_plan.specs.declared.table.Table.{Table}
pub use Rattle.mdv_plan.specs.declared.volume.Base.{Base}
pub use Rattle.mdv_plan.specs.declared.volume.Base.TheVariants.{Slice, Volume}
