-- The words of the crates below in which this crate speaks, so that a file of it needs one line of import.
pub use Rattle.mdv_base.specs.declared.drive.DriveNo.{DriveNo}
pub use Rattle.mdv_base.specs.declared.name.VolId.{VolId}
pub use Rattle.mdv_components.specs.Bases.{has_meeting, has_twice, is_foreign, is_missing, is_no_leaf, is_slice, is_slice_in_use, is_volume_in_use, volume_of}
pub use Rattle.mdv_components.specs.Room.{okay_part}
pub use Rattle.mdv_components.specs.Stripes.{is_bad_row, is_empty_row, is_too_small, row_on}
pub use Rattle.mdv_components.specs.declared.asked.RowAsked.{RowAsked}
pub use Rattle.mdv_components.specs.declared.cause.Cause.{Cause}
pub use Rattle.mdv_components.specs.declared.cause.Cause.TheVariants.{NoSuchVolume, NoSuchSlice, WrongKind, TooFew, TooMany, BadInterlace, SliceInUse, HasParent, Nested, TooSmall}
pub use Rattle.mdv_name.specs.declared.geometry.Geometry.{Geometry}
pub use Rattle.mdv_plan.specs.Parents.{has_parent, is_taken}
pub use Rattle.mdv_plan.specs.Uses.{uses_of}
pub use Rattle.mdv_plan.specs.declared.plan.Plan.{Plan}
pub use Rattle.mdv_plan.specs.declared.status.KindStatus.{KindStatus}
pub use Rattle.mdv_plan.specs.declared.status.KindStatus.TheVariants.{Stripe as StripeKind}
pub use Rattle.mdv_plan.specs.declared.status.PartStatus.{PartStatus}
pub use Rattle.mdv_plan.specs.declared.status.Status.{Status}
pub use Rattle.mdv_plan.specs.declared.status.VolumeStatus.{VolumeStatus}
pub use Rattle.mdv_plan.specs.declared.uses.SliceUse.{SliceUse}
pub use Rattle.mdv_plan.specs.declared.volume.Base.{Base}
pub use Rattle.mdv_plan.specs.declared.volume.Component.{Component}
pub use Rattle.mdv_plan.specs.declared.volume.Row.{Row}
pub use Rattle.mdv_plan.specs.declared.volume.Volume.{Volume as OneVolume}
pub use Rattle.mdv_plan.specs.declared.volume.VolumeKind.{VolumeKind}
pub use Rattle.mdv_plan.specs.declared.volume.VolumeKind.TheVariants.{Stripe}
pub use Rattle.mdv_submirrors.specs.Joining.{status_at}
pub use Rattle.mdv_submirrors.specs.Sizes.{is_no_stripe, is_no_volume}
