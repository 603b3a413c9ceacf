-- The words of the crates below in which this crate speaks, so that a file of it needs one line of import.
pub use Rattle.mdv_base.specs.DriveSet.{Drives}
pub use Rattle.mdv_base.specs.declared.drive.DriveNo.{DriveNo}
pub use Rattle.mdv_base.specs.declared.drive.SliceName.{SliceName}
pub use Rattle.mdv_base.specs.declared.mark.Identity.{Identity}
pub use Rattle.mdv_base.specs.declared.name.Key.{Key}
pub use Rattle.mdv_base.specs.declared.name.VolId.{VolId}
pub use Rattle.mdv_base.specs.declared.place.Place.{Place}
pub use Rattle.mdv_dev.specs.Pieces.{IsOneCopy, LiesAt}
pub use Rattle.mdv_layout_law.specs.Laid.{plain_area}
pub use Rattle.mdv_map.specs.Logs.{AreLastIssued, BlockLog, Follows, VolumeLog, after_answer, after_begin, after_crash, after_flush, after_issue, is_among, left_in, only, opening}
pub use Rattle.mdv_map.specs.Maps.{AreDisjoint, HasDriveBlock, IsDisjoint, Map, area_of_map, readings, run_map}
pub use Rattle.mdv_map.specs.Requests.{AllOnDisk, AllRead, Rewriting}
pub use Rattle.mdv_name.specs.SliceIndex.{HasSlice, slice_at}
pub use Rattle.mdv_name.specs.declared.geometry.Geometry.{Geometry}
pub use Rattle.mdv_name.specs.declared.slice_lines.SliceAt.{SliceAt}
pub use Rattle.mdv_shelf.specs.Area.{Area, AreApart, IsKept, KeptOutside, range}
pub use Rattle.mdv_shelf.specs.Everywhere.{Image}
pub use Rattle.mdv_shelf.specs.Tale.{Among, Begun, IsImage, MayLeave, Start, Tale, last, values}
pub use Rattle.mdv_store_law.specs.Changes.{Change}
pub use Rattle.mdv_store_law.specs.Laws.{restarted}
pub use Rattle.mdv_store_law.specs.Log.{Log, Version, empty_log, is_firm}
pub use Rattle.mdv_databases.specs.Going.{IsCurrentOf, with_events}
pub use Rattle.mdv_databases.specs.Lasting.{IsElsewhere as IsBeside}
pub use Rattle.mdv_databases.specs.Standing.{Stand}
pub use Rattle.mdv_shown.specs.Site.{site_area}
pub use Rattle.mdv_shown.specs.Sites.{site_of}
pub use Rattle.mdv_standing.specs.Holding.{HasNoReplica, IsFresh}
pub use Rattle.mdv_store.specs.Records.{Spells}
pub use Rattle.mdv_config.specs.Slices.{IsSound}
pub use Rattle.mdv_config.specs.Table.{IsOfGeometry}
pub use Rattle.mdv_change.specs.declared.change.Change.{Change as PlanChange}
pub use Rattle.mdv_components.specs.Bases.{volume_of}
pub use Rattle.mdv_plan.specs.Parents.{has_parent}
pub use Rattle.mdv_plan.specs.declared.lists.Lists.{Lists}
pub use Rattle.mdv_plan.specs.declared.lists.Lists.TheVariants.{One, Two}
pub use Rattle.mdv_plan.specs.declared.plan.Plan.{Plan}
pub use Rattle.mdv_plan.specs.declared.table.Table.{Table}
pub use Rattle.mdv_plan.specs.declared.volume.Volume.{Volume}
pub use Rattle.mdv_plan.specs.declared.volume.VolumeKind.{VolumeKind}
pub use Rattle.mdv_plan.specs.declared.volume.VolumeKind.TheVariants.{Stripe}
