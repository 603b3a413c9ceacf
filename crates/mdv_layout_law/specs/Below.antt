-- The words of the crates below in which this crate speaks, so that a file of it needs one line of import.
pub use Rattle.mdv_base.specs.declared.drive.DriveNo.{DriveNo}
pub use Rattle.mdv_base.specs.declared.drive.SliceName.{SliceName}
pub use Rattle.mdv_base.specs.declared.name.VolId.{VolId}
pub use Rattle.mdv_components.specs.Bases.{volume_of}
pub use Rattle.mdv_config.specs.Slices.{HasBlock, IsSound, Overlap, Overlaps}
pub use Rattle.mdv_config.specs.Lists.{base_slices, kind_slices, part_slices, row_slices, volume_slices}
pub use Rattle.mdv_config.specs.Table.{IsKindOf, IsOfGeometry, IsPartOn, IsRowOf, IsRowsOf, row_depth, width, width_of}
pub use Rattle.mdv_dev.specs.Pieces.{IsOneCopy, LiesAt}
pub use Rattle.mdv_dev.specs.Together.{LiesAs}
pub use Rattle.mdv_map.specs.Maps.{AreDisjoint, HasDriveBlock, IsDisjoint, Map, area_of_map, chain_map, column_at, no_map, run_map}
pub use Rattle.mdv_name.specs.SliceIndex.{HasSlice, slice_at}
pub use Rattle.mdv_name.specs.declared.geometry.Geometry.{Geometry}
pub use Rattle.mdv_name.specs.declared.slice_lines.SliceAt.{SliceAt}
pub use Rattle.mdv_name.specs.declared.slice_lines.SliceLine.{SliceLine}
pub use Rattle.mdv_plan.specs.Parents.{has_parent}
pub use Rattle.mdv_plan.specs.Slices.{meets_db}
pub use Rattle.mdv_plan.specs.declared.plan.Plan.{Plan}
pub use Rattle.mdv_plan.specs.declared.table.Table.{Table}
pub use Rattle.mdv_plan.specs.declared.volume.Base.{Base}
pub use Rattle.mdv_plan.specs.declared.volume.Base.TheVariants.{Slice, Volume}
pub use Rattle.mdv_plan.specs.declared.volume.Component.{Component}
pub use Rattle.mdv_plan.specs.declared.volume.Row.{Row}
pub use Rattle.mdv_plan.specs.declared.volume.Soft.{Soft as OneSoft}
pub use Rattle.mdv_plan.specs.declared.volume.Stripe.{Stripe as OneStripe}
pub use Rattle.mdv_plan.specs.declared.volume.Volume.{Volume as OneVolume}
pub use Rattle.mdv_plan.specs.declared.volume.VolumeKind.{VolumeKind}
pub use Rattle.mdv_plan.specs.declared.volume.VolumeKind.TheVariants.{Stripe, Mirror, Raid, Soft}
pub use Rattle.mdv_shelf.specs.Area.{Area, range}
pub use Rattle.mdv_soft.specs.Softs.{soft_on}
pub use Rattle.mdv_stripe.specs.Laws.{AreApart}
pub use Rattle.mdv_stripe.specs.Stripes.{striped}
