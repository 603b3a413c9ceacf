-- The words of the crates below in which this crate speaks, so that a file of it needs one line of import.
pub use Rattle.mdv_base.specs.declared.drive.DriveNo.{DriveNo}
pub use Rattle.mdv_base.specs.declared.drive.SliceName.{SliceName}
pub use Rattle.mdv_base.specs.declared.name.PoolId.{PoolId}
pub use Rattle.mdv_base.specs.declared.name.VolId.{VolId}
pub use Rattle.mdv_base.specs.declared.refusal.Refusal.{Refusal}
pub use Rattle.mdv_change.specs.Change.{refusal_of, table_after}
pub use Rattle.mdv_change.specs.Clear.{emptied}
pub use Rattle.mdv_change.specs.declared.change.Change.TheVariants.{MakeStripe, MakeRaid, MakeMirror, MakeSoft, AddSpares, Clear, ClearBelow}
pub use Rattle.mdv_change.specs.declared.change.Change.{Change}
pub use Rattle.mdv_components.specs.Bases.{volume_of}
pub use Rattle.mdv_components.specs.Raids.{column_blocks, units_of}
pub use Rattle.mdv_components.specs.Room.{component_on, start_of}
pub use Rattle.mdv_components.specs.Stripes.{row_on}
pub use Rattle.mdv_components.specs.declared.asked.RaidAsked.{RaidAsked}
pub use Rattle.mdv_components.specs.declared.asked.RowAsked.{RowAsked}
pub use Rattle.mdv_extent.specs.declared.run.Run.{Run}
pub use Rattle.mdv_name.specs.declared.geometry.Geometry.{Geometry}
pub use Rattle.mdv_parts.specs.declared.component.Component.TheVariants.{Slice as NamedSlice, Volume as NamedVolume}
pub use Rattle.mdv_parts.specs.declared.component.Component.{Component as Named}
pub use Rattle.mdv_plan.specs.Sorted.{IsAscending, without}
pub use Rattle.mdv_plan.specs.declared.plan.Plan.{Plan}
pub use Rattle.mdv_plan.specs.declared.pool.Pool.{Pool as OnePool}
pub use Rattle.mdv_plan.specs.declared.pool.Spare.{Spare}
pub use Rattle.mdv_plan.specs.declared.table.Table.{Table}
pub use Rattle.mdv_plan.specs.declared.volume.Base.TheVariants.{Slice, Volume}
pub use Rattle.mdv_plan.specs.declared.volume.Base.{Base}
pub use Rattle.mdv_plan.specs.declared.volume.Raid.{Raid as OneRaid}
pub use Rattle.mdv_plan.specs.declared.volume.ReadOption.TheVariants.{InTurn, Geometric, First}
pub use Rattle.mdv_plan.specs.declared.volume.ReadOption.{ReadOption}
pub use Rattle.mdv_plan.specs.declared.volume.Row.{Row}
pub use Rattle.mdv_plan.specs.declared.volume.Volume.{Volume as OneVolume}
pub use Rattle.mdv_plan.specs.declared.volume.VolumeKind.TheVariants.{Stripe, Mirror, Raid, Soft}
pub use Rattle.mdv_plan.specs.declared.volume.VolumeKind.{VolumeKind}
pub use Rattle.mdv_plan.specs.declared.volume.WriteOption.TheVariants.{Parallel, Serial}
pub use Rattle.mdv_plan.specs.declared.volume.WriteOption.{WriteOption}
pub use Rattle.mdv_print.specs.Entries.{component_named, entries_of, entry_of_pool, entry_of_volume, row_entry}
pub use Rattle.mdv_softs.specs.declared.making.RoomAsked.TheVariants.{Blocks, Extents}
pub use Rattle.mdv_softs.specs.declared.making.RoomAsked.{RoomAsked}
pub use Rattle.mdv_softs.specs.declared.making.SoftAsked.{SoftAsked}
pub use Rattle.mdv_spares.specs.Pools.{new_spare}
pub use Rattle.mdv_submirrors.specs.Mirrors.{mirror_blocks}
pub use Rattle.mdv_submirrors.specs.declared.mirrors.MirrorAsked.{MirrorAsked}
pub use Rattle.mdv_tab.specs.declared.entry.Entry.{Entry}
pub use Rattle.mdv_tab.specs.declared.entry.Extent.{Extent}
pub use Rattle.mdv_tab.specs.declared.entry.MirrorOptions.{MirrorOptions}
pub use Rattle.mdv_tab.specs.declared.entry.RaidOptions.{RaidOptions}
pub use Rattle.mdv_tab.specs.declared.entry.ReadFrom.{ReadFrom}
pub use Rattle.mdv_tab.specs.declared.entry.Room.{Room}
pub use Rattle.mdv_tab.specs.declared.entry.Row.{Row as RowEntry}
