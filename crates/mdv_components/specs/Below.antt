-- The words of the crates below in which this crate speaks, so that a file of it needs one line of import.
pub use Rattle.mdv_base.specs.declared.drive.DriveNo.{DriveNo}
pub use Rattle.mdv_base.specs.declared.drive.SliceName.{SliceName}
pub use Rattle.mdv_base.specs.declared.name.PoolId.{PoolId}
pub use Rattle.mdv_base.specs.declared.name.VolId.{VolId}
pub use Rattle.mdv_base.specs.declared.place.Place.{Place}
pub use Rattle.mdv_base.specs.declared.refusal.Refusal.{Refusal}
pub use Rattle.mdv_extent.specs.declared.run.Run.{Run}
pub use Rattle.mdv_name.specs.declared.geometry.Geometry.{Geometry}
pub use Rattle.mdv_name.specs.declared.slice_lines.SliceAt.{SliceAt}
pub use Rattle.mdv_plan.specs.Parents.{has_parent}
pub use Rattle.mdv_plan.specs.Slices.{slice_at, overlap, clashes, meets_db}
pub use Rattle.mdv_plan.specs.Uses.{uses_of, same_slice}
pub use Rattle.mdv_plan.specs.declared.clash.Asked.TheVariants.{OneComponent}
pub use Rattle.mdv_plan.specs.declared.lists.Lists.{Lists}
pub use Rattle.mdv_plan.specs.declared.lists.Lists.TheVariants.{One, Two}
pub use Rattle.mdv_plan.specs.declared.plan.Plan.{Plan}
pub use Rattle.mdv_plan.specs.declared.pool.Pool.{Pool}
pub use Rattle.mdv_plan.specs.declared.status.PartStatus.{PartStatus}
pub use Rattle.mdv_plan.specs.declared.status.State.TheVariants.{Okay}
pub use Rattle.mdv_plan.specs.declared.status.VolumeStatus.{VolumeStatus}
pub use Rattle.mdv_plan.specs.declared.uses.SliceUse.{SliceUse}
pub use Rattle.mdv_plan.specs.declared.volume.Base.{Base}
pub use Rattle.mdv_plan.specs.declared.volume.Base.TheVariants.{Slice, Volume}
pub use Rattle.mdv_plan.specs.declared.volume.Component.{Component}
pub use Rattle.mdv_plan.specs.declared.volume.Row.{Row}
pub use Rattle.mdv_plan.specs.declared.volume.Volume.{Volume as OneVolume}
pub use Rattle.mdv_plan.specs.declared.volume.VolumeKind.{VolumeKind}
pub use Rattle.mdv_plan.specs.declared.volume.VolumeKind.TheVariants.{Stripe, Mirror, Raid, Soft}
