-- The words of the crates below in which this crate speaks, so that a file of it needs one line of import.
pub use Rattle.mdv_base.specs.declared.drive.SliceName.{SliceName}
pub use Rattle.mdv_base.specs.declared.name.VolId.{VolId}
pub use Rattle.mdv_name.specs.Code.{slice_code}
pub use Rattle.mdv_plan.specs.declared.plan.Plan.{Plan}
pub use Rattle.mdv_plan.specs.declared.status.KindStatus.{KindStatus}
pub use Rattle.mdv_plan.specs.declared.status.KindStatus.TheVariants.{Stripe as StripeNoted, Mirror as MirrorNoted, Raid as RaidNoted, Soft as SoftNoted}
pub use Rattle.mdv_plan.specs.declared.status.MirrorStatus.{MirrorStatus}
pub use Rattle.mdv_plan.specs.declared.status.PartStatus.{PartStatus}
pub use Rattle.mdv_plan.specs.declared.status.RaidState.{RaidState}
pub use Rattle.mdv_plan.specs.declared.status.RaidState.TheVariants.{Okay as RaidDone}
pub use Rattle.mdv_plan.specs.declared.status.RaidStatus.{RaidStatus}
pub use Rattle.mdv_plan.specs.declared.status.Resync.TheVariants.{Regions, Whole}
pub use Rattle.mdv_plan.specs.declared.status.SpareState.{SpareState}
pub use Rattle.mdv_plan.specs.declared.status.SpareState.TheVariants.{Available, InUse, Broken}
pub use Rattle.mdv_plan.specs.declared.status.SpareStatus.{SpareStatus}
pub use Rattle.mdv_plan.specs.declared.status.SpareUse.{SpareUse}
pub use Rattle.mdv_plan.specs.declared.status.State.{State}
pub use Rattle.mdv_plan.specs.declared.status.State.TheVariants.{Okay, Resyncing, Maintenance, LastErred}
pub use Rattle.mdv_plan.specs.declared.status.Status.{Status}
pub use Rattle.mdv_plan.specs.declared.status.VolumeStatus.{VolumeStatus}
pub use Rattle.mdv_plan.specs.declared.table.Table.{Table}
pub use Rattle.mdv_plan.specs.declared.volume.Volume.{Volume as OneVolume}
pub use Rattle.mdv_plan.specs.declared.volume.VolumeKind.{VolumeKind}
pub use Rattle.mdv_plan.specs.declared.volume.VolumeKind.TheVariants.{Mirror as MirrorKind}
