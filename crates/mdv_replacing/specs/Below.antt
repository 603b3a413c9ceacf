-- The words of the crates below in which this crate speaks, so that a file of it needs one line of import.
pub use Rattle.mdv_base.specs.declared.drive.DriveNo.{DriveNo}
pub use Rattle.mdv_base.specs.declared.drive.SliceName.{SliceName}
pub use Rattle.mdv_base.specs.declared.name.VolId.{VolId}
pub use Rattle.mdv_base.specs.declared.refusal.Refusal.{Refusal}
pub use Rattle.mdv_base.specs.declared.state_word.StateWord.{StateWord}
pub use Rattle.mdv_components.specs.Bases.{is_foreign, is_missing, is_no_leaf, is_slice_in_use, is_volume_in_use, volume_of}
pub use Rattle.mdv_components.specs.Causes.{first_of, order, told}
pub use Rattle.mdv_components.specs.Room.{room_of, start_of}
pub use Rattle.mdv_components.specs.declared.cause.Cause.{Cause}
pub use Rattle.mdv_components.specs.declared.cause.Cause.TheVariants.{NoSuchVolume, NoSuchSlice, WrongKind, WrongState, LastCopy, SliceInUse, HasParent, Nested, TooSmall}
pub use Rattle.mdv_copies.specs.Copies.{has_part_on, is_last_on, is_part_on}
pub use Rattle.mdv_copies.specs.Leaving.{with_word}
pub use Rattle.mdv_copies.specs.States.{is_okay, worst}
pub use Rattle.mdv_name.specs.declared.geometry.Geometry.{Geometry}
pub use Rattle.mdv_plan.specs.Uses.{uses_of}
pub use Rattle.mdv_plan.specs.declared.plan.Plan.{Plan}
pub use Rattle.mdv_plan.specs.declared.status.KindStatus.{KindStatus}
pub use Rattle.mdv_plan.specs.declared.status.KindStatus.TheVariants.{Raid as RaidKind, Stripe as StripeKind}
pub use Rattle.mdv_plan.specs.declared.status.PartStatus.{PartStatus}
pub use Rattle.mdv_plan.specs.declared.status.Resync.TheVariants.{Whole}
pub use Rattle.mdv_plan.specs.declared.status.SpareUse.{SpareUse}
pub use Rattle.mdv_plan.specs.declared.status.State.{State}
pub use Rattle.mdv_plan.specs.declared.status.State.TheVariants.{Okay, Resyncing, Maintenance, LastErred}
pub use Rattle.mdv_plan.specs.declared.status.Status.{Status}
pub use Rattle.mdv_plan.specs.declared.status.VolumeStatus.{VolumeStatus}
pub use Rattle.mdv_plan.specs.declared.table.Table.{Table}
pub use Rattle.mdv_plan.specs.declared.volume.Base.{Base}
pub use Rattle.mdv_plan.specs.declared.volume.Base.TheVariants.{Volume}
pub use Rattle.mdv_plan.specs.declared.volume.Component.{Component}
pub use Rattle.mdv_plan.specs.declared.volume.Row.{Row}
pub use Rattle.mdv_plan.specs.declared.volume.Volume.{Volume as OneVolume}
pub use Rattle.mdv_plan.specs.declared.volume.VolumeKind.{VolumeKind}
pub use Rattle.mdv_plan.specs.declared.volume.VolumeKind.TheVariants.{Stripe, Mirror, Raid}
pub use Rattle.mdv_rows.specs.Adding.{is_nesting, lacks_one, parts_of as row_parts}
pub use Rattle.mdv_softs.specs.Asking.{is_initializing}
pub use Rattle.mdv_submirrors.specs.Joining.{status_at}
