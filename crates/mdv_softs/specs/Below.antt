-- The words of the crates below in which this crate speaks, so that a file of it needs one line of import.
pub use Rattle.mdv_base.specs.declared.drive.DriveNo.{DriveNo}
pub use Rattle.mdv_base.specs.declared.name.VolId.{VolId}
pub use Rattle.mdv_base.specs.declared.refusal.Refusal.{Refusal}
pub use Rattle.mdv_base.specs.declared.state_word.StateWord.TheVariants.{Okay as OkayWord, Initializing as InitializingWord}
pub use Rattle.mdv_components.specs.Bases.{is_foreign, is_missing, volume_of}
pub use Rattle.mdv_components.specs.Causes.{first_of, order, told}
pub use Rattle.mdv_components.specs.Room.{start_of}
pub use Rattle.mdv_components.specs.Softs.{has_soft, has_soft_in}
pub use Rattle.mdv_components.specs.declared.cause.Carried.{Carried}
pub use Rattle.mdv_components.specs.declared.cause.Cause.{Cause}
pub use Rattle.mdv_components.specs.declared.cause.Cause.TheVariants.{NoSuchVolume, NoSuchSlice, NameTaken, WrongKind, WrongState, TooMany, SliceInUse, HasParent, Nested, TooSmall, NoSpace}
pub use Rattle.mdv_extent.specs.Extents.{lie_apart}
pub use Rattle.mdv_extent.specs.Free.{free_of}
pub use Rattle.mdv_extent.specs.Runs.{end_of}
pub use Rattle.mdv_extent.specs.Share.{allotted}
pub use Rattle.mdv_extent.specs.declared.run.Run.{Run}
pub use Rattle.mdv_extent.specs.declared.share.SpaceFault.{SpaceFault}
pub use Rattle.mdv_extent.specs.declared.share.SpaceFault.TheVariants.{NoSpace as TooShort}
pub use Rattle.mdv_name.specs.declared.geometry.Geometry.{Geometry}
pub use Rattle.mdv_name.specs.declared.slice_lines.SliceAt.{SliceAt}
pub use Rattle.mdv_plan.specs.Parents.{is_taken}
pub use Rattle.mdv_plan.specs.Slices.{clashes, meets_db, slice_at}
pub use Rattle.mdv_plan.specs.Uses.{runs_on, same_base, uses_of}
pub use Rattle.mdv_plan.specs.declared.clash.Asked.TheVariants.{Extents as SomeExtents}
pub use Rattle.mdv_plan.specs.declared.plan.Plan.{Plan}
pub use Rattle.mdv_plan.specs.declared.status.KindStatus.{KindStatus}
pub use Rattle.mdv_plan.specs.declared.status.KindStatus.TheVariants.{Raid as RaidKind, Soft as SoftKind}
pub use Rattle.mdv_plan.specs.declared.status.RaidState.{RaidState}
pub use Rattle.mdv_plan.specs.declared.status.RaidState.TheVariants.{Okay, Initializing, Keeping}
pub use Rattle.mdv_plan.specs.declared.status.Status.{Status}
pub use Rattle.mdv_plan.specs.declared.status.VolumeStatus.{VolumeStatus}
pub use Rattle.mdv_plan.specs.declared.table.Table.{Table}
pub use Rattle.mdv_plan.specs.declared.uses.SliceUse.{SliceUse}
pub use Rattle.mdv_plan.specs.declared.volume.Base.{Base}
pub use Rattle.mdv_plan.specs.declared.volume.Base.TheVariants.{Slice, Volume}
pub use Rattle.mdv_plan.specs.declared.volume.Raid.{Raid as OneRaid}
pub use Rattle.mdv_plan.specs.declared.volume.Soft.{Soft as OneSoft}
pub use Rattle.mdv_plan.specs.declared.volume.Volume.{Volume as OneVolume}
pub use Rattle.mdv_plan.specs.declared.volume.VolumeKind.{VolumeKind}
pub use Rattle.mdv_plan.specs.declared.volume.VolumeKind.TheVariants.{Stripe, Mirror, Raid, Soft}
pub use Rattle.mdv_submirrors.specs.Joining.{status_at}
pub use Rattle.mdv_submirrors.specs.Sizes.{is_no_volume, stripe_blocks}
