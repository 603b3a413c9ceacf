-- The words of the crates below in which this crate speaks, so that a file of it needs one line of import.
pub use Rattle.mdv_base.specs.declared.name.VolId.{VolId}
pub use Rattle.mdv_base.specs.declared.refusal.Refusal.{Refusal}
pub use Rattle.mdv_base.specs.declared.state_word.StateWord.{StateWord}
pub use Rattle.mdv_components.specs.Bases.{volume_of}
pub use Rattle.mdv_components.specs.Causes.{first_of, order, told}
pub use Rattle.mdv_components.specs.declared.cause.Carried.{Carried}
pub use Rattle.mdv_components.specs.declared.cause.Cause.{Cause}
pub use Rattle.mdv_components.specs.declared.cause.Cause.TheVariants.{NoSuchVolume, WrongKind, WrongState, LastCopy}
pub use Rattle.mdv_plan.specs.Resumed.{has_dirty, part_resumed}
pub use Rattle.mdv_plan.specs.Uses.{same_base}
pub use Rattle.mdv_plan.specs.declared.plan.Plan.{Plan}
pub use Rattle.mdv_plan.specs.declared.status.KindStatus.{KindStatus}
pub use Rattle.mdv_plan.specs.declared.status.KindStatus.TheVariants.{Mirror as MirrorKind, Stripe as StripeKind}
pub use Rattle.mdv_plan.specs.declared.status.PartStatus.{PartStatus}
pub use Rattle.mdv_plan.specs.declared.status.Resync.TheVariants.{Regions, Whole}
pub use Rattle.mdv_plan.specs.declared.status.State.{State}
pub use Rattle.mdv_plan.specs.declared.status.State.TheVariants.{Okay, Resyncing, Maintenance, LastErred}
pub use Rattle.mdv_plan.specs.declared.status.Status.{Status}
pub use Rattle.mdv_plan.specs.declared.status.VolumeStatus.{VolumeStatus}
pub use Rattle.mdv_plan.specs.declared.table.Table.{Table}
pub use Rattle.mdv_plan.specs.declared.volume.Base.{Base}
pub use Rattle.mdv_plan.specs.declared.volume.Component.{Component}
pub use Rattle.mdv_plan.specs.declared.volume.Row.{Row}
pub use Rattle.mdv_plan.specs.declared.volume.Volume.{Volume as OneVolume}
pub use Rattle.mdv_plan.specs.declared.volume.VolumeKind.{VolumeKind}
pub use Rattle.mdv_plan.specs.declared.volume.VolumeKind.TheVariants.{Stripe, Mirror}
pub use Rattle.mdv_rows.specs.Adding.{rows_of}
pub use Rattle.mdv_submirrors.specs.Attaching.{is_no_mirror, size_of, subs_of}
pub use Rattle.mdv_submirrors.specs.Joining.{kind_parts, parts_at, status_at}
pub use Rattle.mdv_submirrors.specs.Sizes.{is_no_stripe, is_no_volume, row_blocks}
