-- The words of the crates below in which this crate speaks, so that a file of it needs one line of import.
pub use Rattle.mdv_base.specs.declared.name.VolId.{VolId}
pub use Rattle.mdv_components.specs.Bases.{volume_of}
pub use Rattle.mdv_components.specs.Softs.{has_soft_in}
pub use Rattle.mdv_components.specs.declared.cause.Cause.{Cause}
pub use Rattle.mdv_components.specs.declared.cause.Cause.TheVariants.{NoSuchVolume, NameTaken, WrongKind, TooFew, TooMany, HasParent, Nested, TooSmall}
pub use Rattle.mdv_keys.specs.Keys.{replaced}
pub use Rattle.mdv_plan.specs.Parents.{has_parent}
pub use Rattle.mdv_plan.specs.declared.plan.Plan.{Plan}
pub use Rattle.mdv_plan.specs.declared.status.KindStatus.{KindStatus}
pub use Rattle.mdv_plan.specs.declared.status.KindStatus.TheVariants.{Mirror as MirrorKind, Stripe as StripeKind}
pub use Rattle.mdv_plan.specs.declared.status.MirrorStatus.{MirrorStatus}
pub use Rattle.mdv_plan.specs.declared.status.PartStatus.{PartStatus}
pub use Rattle.mdv_plan.specs.declared.status.Resync.TheVariants.{Whole}
pub use Rattle.mdv_plan.specs.declared.status.State.{State}
pub use Rattle.mdv_plan.specs.declared.status.State.TheVariants.{Okay, Resyncing}
pub use Rattle.mdv_plan.specs.declared.status.Status.{Status}
pub use Rattle.mdv_plan.specs.declared.status.VolumeStatus.{VolumeStatus}
pub use Rattle.mdv_plan.specs.declared.volume.Component.{Component}
pub use Rattle.mdv_plan.specs.declared.volume.Row.{Row}
pub use Rattle.mdv_plan.specs.declared.volume.Volume.{Volume as OneVolume}
pub use Rattle.mdv_plan.specs.declared.volume.VolumeKind.{VolumeKind}
pub use Rattle.mdv_plan.specs.declared.volume.VolumeKind.TheVariants.{Stripe, Mirror}
