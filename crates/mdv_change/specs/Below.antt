-- The words of the crates below in which this crate speaks, so that a file of it needs one line of import.
pub use Rattle.mdv_base.specs.declared.drive.DriveNo.{DriveNo}
pub use Rattle.mdv_base.specs.declared.drive.SliceName.{SliceName}
pub use Rattle.mdv_base.specs.declared.name.PoolId.{PoolId}
pub use Rattle.mdv_base.specs.declared.name.VolId.{VolId}
pub use Rattle.mdv_base.specs.declared.refusal.Refusal.{Refusal}
pub use Rattle.mdv_components.specs.Bases.{pool_of, volume_of}
pub use Rattle.mdv_components.specs.Causes.{order, first_of, nothing, told}
pub use Rattle.mdv_components.specs.Raids.{raid_condition, raid_on, raid_status}
pub use Rattle.mdv_components.specs.Stripes.{row_on, stripe_condition, stripe_on, stripe_status}
pub use Rattle.mdv_components.specs.declared.asked.RaidAsked.{RaidAsked}
pub use Rattle.mdv_components.specs.declared.asked.RowAsked.{RowAsked}
pub use Rattle.mdv_components.specs.declared.cause.Carried.{Carried}
pub use Rattle.mdv_components.specs.declared.cause.Cause.{Cause}
pub use Rattle.mdv_base.specs.declared.state_word.StateWord.{StateWord}
pub use Rattle.mdv_base.specs.declared.state_word.StateWord.TheVariants.{Absent}
pub use Rattle.mdv_copies.specs.Leaving.{detach_condition, offline_condition, online_condition, without_sub}
pub use Rattle.mdv_copies.specs.States.{detach_states, online_states, online_word, sub_word, switched}
pub use Rattle.mdv_keys.specs.Keys.{kept}
pub use Rattle.mdv_keys.specs.Marks.{pool_key, volume_key}
pub use Rattle.mdv_name.specs.Code.{slice_code}
pub use Rattle.mdv_name.specs.declared.geometry.Geometry.{Geometry}
pub use Rattle.mdv_plan.specs.Named.{kind_below}
pub use Rattle.mdv_plan.specs.Parents.{names_pool, names_volume}
pub use Rattle.mdv_plan.specs.Sorted.{changed, with_item, with_put, without}
pub use Rattle.mdv_plan.specs.Uses.{same_slice}
pub use Rattle.mdv_plan.specs.declared.plan.Plan.{Plan}
pub use Rattle.mdv_plan.specs.declared.pool.Pool.{Pool}
pub use Rattle.mdv_plan.specs.declared.pool.Spare.{Spare}
pub use Rattle.mdv_plan.specs.declared.status.KindStatus.{KindStatus}
pub use Rattle.mdv_plan.specs.declared.status.PartStatus.{PartStatus}
pub use Rattle.mdv_plan.specs.declared.status.SpareStatus.{SpareStatus}
pub use Rattle.mdv_plan.specs.declared.status.SpareUse.{SpareUse}
pub use Rattle.mdv_plan.specs.declared.status.Status.{Status}
pub use Rattle.mdv_plan.specs.declared.status.VolumeStatus.{VolumeStatus}
pub use Rattle.mdv_plan.specs.declared.table.Table.{Table}
pub use Rattle.mdv_plan.specs.declared.volume.Base.{Base}
pub use Rattle.mdv_plan.specs.declared.volume.Component.{Component}
pub use Rattle.mdv_plan.specs.declared.volume.Row.{Row}
pub use Rattle.mdv_plan.specs.declared.volume.Volume.{Volume as OneVolume}
pub use Rattle.mdv_plan.specs.declared.volume.VolumeKind.{VolumeKind}
pub use Rattle.mdv_replacing.specs.Refusing.{enable_part_condition, replace_part_condition, told_word}
pub use Rattle.mdv_replacing.specs.Renewing.{freed_spares, part_states, renewed_volume}
pub use Rattle.mdv_rows.specs.Adding.{add_condition, added_states, filled, rows_of, with_row}
pub use Rattle.mdv_softs.specs.Asking.{carried_of}
pub use Rattle.mdv_softs.specs.Growing.{grow_condition, grown, grown_room}
pub use Rattle.mdv_softs.specs.Making.{soft_condition, soft_on, soft_room, soft_status}
pub use Rattle.mdv_softs.specs.declared.making.SoftAsked.{SoftAsked}
pub use Rattle.mdv_spares.specs.AllPools.{all_condition, spares_added}
pub use Rattle.mdv_spares.specs.Deleting.{delete_condition, spares_deleted}
pub use Rattle.mdv_spares.specs.Enabling.{enable_condition, unbroken_word}
pub use Rattle.mdv_spares.specs.declared.meant.Meant.{Meant}
pub use Rattle.mdv_spares.specs.Pools.{pool_with, spares_condition, with_states as spare_states}
pub use Rattle.mdv_spares.specs.Replacing.{replace_condition, spare_replaced}
pub use Rattle.mdv_submirrors.specs.Attaching.{attach_condition, attach_states, with_sub}
pub use Rattle.mdv_submirrors.specs.Joining.{all_joined, noted}
pub use Rattle.mdv_submirrors.specs.Mirrors.{mirror_condition, mirror_on, mirror_status}
pub use Rattle.mdv_submirrors.specs.declared.mirrors.MirrorAsked.{MirrorAsked}
