-- The words of the crates below in which this crate speaks, so that a file of it needs one line of import.
pub use Rattle.mdv_base.specs.declared.drive.SliceName.{SliceName}
pub use Rattle.mdv_base.specs.declared.place.Place.{Place}
pub use Rattle.mdv_components.specs.Bases.{volume_of}
pub use Rattle.mdv_components.specs.Room.{first_block}
pub use Rattle.mdv_extent.specs.Extents.{LieApart}
pub use Rattle.mdv_extent.specs.Runs.{end_of}
pub use Rattle.mdv_extent.specs.declared.run.Run.{Run}
pub use Rattle.mdv_fields.specs.declared.fault.RecordError.{RecordError}
pub use Rattle.mdv_fields.specs.declared.fault.RecordError.TheVariants.{Memory}
pub use Rattle.mdv_name.specs.Code.{slice_code}
pub use Rattle.mdv_name.specs.declared.geometry.Geometry.{Geometry}
pub use Rattle.mdv_name.specs.declared.slice_lines.SliceAt.{SliceAt}
pub use Rattle.mdv_plan.specs.Slices.{IsSound, IsSoundSlice, beside, clashes_with, meets_db, overlap, share_a_block, slice_at}
pub use Rattle.mdv_plan.specs.Uses.{list_uses, pool_uses, runs_on, same_base, same_slice, uses_of, volume_runs, volume_uses}
pub use Rattle.mdv_plan.specs.declared.clash.Asked.{Asked}
pub use Rattle.mdv_plan.specs.declared.clash.Asked.TheVariants.{ReplicasTo, OneComponent, Extents, OneSpare}
pub use Rattle.mdv_plan.specs.declared.lists.Lists.{Lists}
pub use Rattle.mdv_plan.specs.declared.lists.Lists.TheVariants.{One, Two}
pub use Rattle.mdv_plan.specs.declared.plan.Plan.{Plan}
pub use Rattle.mdv_plan.specs.declared.pool.Pool.{Pool}
pub use Rattle.mdv_plan.specs.declared.table.Table.{Table}
pub use Rattle.mdv_plan.specs.declared.uses.SliceUse.{SliceUse}
pub use Rattle.mdv_plan.specs.declared.uses.User.{User}
pub use Rattle.mdv_plan.specs.declared.uses.User.TheVariants.{Replica, Component, Extent, Spare}
pub use Rattle.mdv_plan.specs.declared.volume.Base.{Base}
pub use Rattle.mdv_plan.specs.declared.volume.Base.TheVariants.{Slice, Volume}
pub use Rattle.mdv_plan.specs.declared.volume.Soft.{Soft as OneSoft}
pub use Rattle.mdv_plan.specs.declared.volume.Volume.{Volume as OneVolume}
pub use Rattle.mdv_plan.specs.declared.volume.VolumeKind.{VolumeKind}
pub use Rattle.mdv_plan.specs.declared.volume.VolumeKind.TheVariants.{Stripe, Mirror, Raid, Soft}
pub use Rattle.mdv_shape.specs.Seats.{spare_key}
pub use Rattle.mdv_shape.specs.Shape.{IsShaped}
pub use Rattle.mdv_softs.specs.Room.{blocks_behind, size_on, start_in, start_on, volume_blocks}
pub use Rattle.mdv_whole.specs.Text.{IsTable, table_text}
