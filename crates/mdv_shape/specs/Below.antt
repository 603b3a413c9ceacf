-- The words of the crates below in which this crate speaks, so that a file of it needs one line of import.
pub use Rattle.mdv_base.specs.declared.drive.SliceName.{SliceName}
pub use Rattle.mdv_base.specs.declared.name.VolId.{VolId}
pub use Rattle.mdv_components.specs.Bases.{is_missing, is_no_leaf, no_pool, volume_of}
pub use Rattle.mdv_components.specs.Room.{volume_blocks as soft_blocks}
pub use Rattle.mdv_copies.specs.Copies.{any_below, is_bare}
pub use Rattle.mdv_copies.specs.Legs.{legs_of, volume_in}
pub use Rattle.mdv_copies.specs.declared.legs.Leg.{Leg}
pub use Rattle.mdv_keys.specs.Marks.{volume_key}
pub use Rattle.mdv_name.specs.Code.{slice_code}
pub use Rattle.mdv_plan.specs.Named.{kind_below}
pub use Rattle.mdv_plan.specs.declared.plan.Plan.{Plan}
pub use Rattle.mdv_plan.specs.declared.pool.Pool.{Pool}
pub use Rattle.mdv_plan.specs.declared.pool.Spare.{Spare}
pub use Rattle.mdv_plan.specs.declared.status.PartStatus.{PartStatus}
pub use Rattle.mdv_plan.specs.declared.status.SpareState.{SpareState}
pub use Rattle.mdv_plan.specs.declared.status.SpareState.TheVariants.{InUse}
pub use Rattle.mdv_plan.specs.declared.status.SpareStatus.{SpareStatus}
pub use Rattle.mdv_plan.specs.declared.status.SpareUse.{SpareUse}
pub use Rattle.mdv_plan.specs.declared.status.Status.{Status}
pub use Rattle.mdv_plan.specs.declared.status.VolumeStatus.{VolumeStatus}
pub use Rattle.mdv_plan.specs.declared.table.Table.{Table}
pub use Rattle.mdv_plan.specs.declared.volume.Base.{Base}
pub use Rattle.mdv_plan.specs.declared.volume.Base.TheVariants.{Slice, Volume}
pub use Rattle.mdv_plan.specs.declared.volume.Component.{Component}
pub use Rattle.mdv_plan.specs.declared.volume.Mirror.{Mirror as OneMirror}
pub use Rattle.mdv_plan.specs.declared.volume.Raid.{Raid as OneRaid}
pub use Rattle.mdv_plan.specs.declared.volume.Row.{Row}
pub use Rattle.mdv_plan.specs.declared.volume.Volume.{Volume as OneVolume}
pub use Rattle.mdv_plan.specs.declared.volume.VolumeKind.{VolumeKind}
pub use Rattle.mdv_plan.specs.declared.volume.VolumeKind.TheVariants.{Stripe, Mirror, Raid, Soft}
pub use Rattle.mdv_rows.specs.Adding.{parts_of}
pub use Rattle.mdv_softs.specs.Asking.{is_nested}
pub use Rattle.mdv_submirrors.specs.Sizes.{blocks_of, is_no_stripe, stripe_blocks}
pub use Rattle.mdv_whole.specs.Sides.{part_states, state_in}
