-- The words of the crates below in which this crate speaks, so that a file of it needs one line of import.
pub use Rattle.mdv_base.specs.declared.drive.DriveNo.{DriveNo}
pub use Rattle.mdv_base.specs.declared.name.PoolId.{PoolId}
pub use Rattle.mdv_base.specs.declared.name.VolId.{VolId}
pub use Rattle.mdv_change.specs.Apply.{IsMade}
pub use Rattle.mdv_change.specs.declared.change.Change.{Change}
pub use Rattle.mdv_change.specs.declared.change.Change.TheVariants.{AddRow, Clear, ClearAll, ClearBelow, MakeStripe}
pub use Rattle.mdv_components.specs.Bases.{volume_of}
pub use Rattle.mdv_components.specs.declared.asked.RowAsked.{RowAsked}
pub use Rattle.mdv_config.specs.Slices.{IsSound}
pub use Rattle.mdv_config.specs.Table.{IsOfGeometry}
pub use Rattle.mdv_keeping.specs.Built.{IsBuilt, IsOfSlices, IsSlice}
pub use Rattle.mdv_keeping.specs.Keeping.{IsStepOf}
pub use Rattle.mdv_map.specs.Maps.{HasDriveBlock, Map}
pub use Rattle.mdv_name.specs.declared.geometry.Geometry.{Geometry}
pub use Rattle.mdv_plan.specs.declared.plan.Plan.{Plan}
pub use Rattle.mdv_plan.specs.declared.table.Table.{Table}
pub use Rattle.mdv_plan.specs.declared.volume.Base.{Base}
pub use Rattle.mdv_plan.specs.declared.volume.Base.TheVariants.{Slice, Volume}
pub use Rattle.mdv_plan.specs.declared.volume.Component.{Component}
pub use Rattle.mdv_plan.specs.declared.volume.Row.{Row}
pub use Rattle.mdv_plan.specs.declared.volume.Volume.{Volume as OneVolume}
pub use Rattle.mdv_plan.specs.declared.volume.VolumeKind.{VolumeKind}
pub use Rattle.mdv_plan.specs.declared.volume.VolumeKind.TheVariants.{Stripe, Mirror, Raid, Soft}
