-- The words of the crates below in which this crate speaks, so that a file of it needs one line of import.
pub use Rattle.mdv_base.specs.declared.drive.DriveNo.{DriveNo}
pub use Rattle.mdv_base.specs.declared.drive.SliceName.{SliceName}
pub use Rattle.mdv_base.specs.declared.name.PoolId.{PoolId}
pub use Rattle.mdv_components.specs.Bases.{has_meeting, is_foreign, pool_of}
pub use Rattle.mdv_components.specs.Room.{room_of, start_of}
pub use Rattle.mdv_components.specs.declared.cause.Cause.{Cause}
pub use Rattle.mdv_components.specs.declared.cause.Cause.TheVariants.{NoSuchPool, NoSuchSlice, NameTaken, WrongState, TooMany, SliceInUse, SpareInUse, TooSmall}
pub use Rattle.mdv_keys.specs.Keys.{kept, replaced}
pub use Rattle.mdv_name.specs.Code.{slice_code}
pub use Rattle.mdv_name.specs.declared.geometry.Geometry.{Geometry}
pub use Rattle.mdv_plan.specs.Slices.{clashes, meets_db}
pub use Rattle.mdv_plan.specs.Sorted.{with_put}
pub use Rattle.mdv_plan.specs.Uses.{same_slice, uses_of}
pub use Rattle.mdv_plan.specs.declared.clash.Asked.TheVariants.{OneSpare}
pub use Rattle.mdv_plan.specs.declared.plan.Plan.{Plan}
pub use Rattle.mdv_plan.specs.declared.pool.Pool.{Pool}
pub use Rattle.mdv_plan.specs.declared.pool.Spare.{Spare}
pub use Rattle.mdv_plan.specs.declared.status.SpareState.{SpareState}
pub use Rattle.mdv_plan.specs.declared.status.SpareState.TheVariants.{Available, InUse, Broken}
pub use Rattle.mdv_plan.specs.declared.status.SpareStatus.{SpareStatus}
pub use Rattle.mdv_plan.specs.declared.table.Table.{Table}
pub use Rattle.mdv_plan.specs.declared.uses.SliceUse.{SliceUse}
pub use Rattle.mdv_plan.specs.declared.volume.Base.{Base}
pub use Rattle.mdv_plan.specs.declared.volume.Base.TheVariants.{Slice}
