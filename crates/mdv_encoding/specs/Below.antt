-- The words of the crates below in which this crate speaks, so that a file of it needs one line of import.
pub use Rattle.mdv_base.specs.declared.drive.SliceName.{SliceName}
pub use Rattle.mdv_base.specs.declared.place.Place.{Place}
pub use Rattle.mdv_codec.specs.declared.recorded.RecordedPart.{RecordedPart}
pub use Rattle.mdv_codec.specs.declared.recorded.RecordedRow.{RecordedRow}
pub use Rattle.mdv_codec.specs.declared.recorded.RecordedVolume.{RecordedVolume}
pub use Rattle.mdv_config.specs.Lists.{beside, last_of, places_of, same_place, settled, with_lists}
pub use Rattle.mdv_config.specs.Slices.{IsSound}
pub use Rattle.mdv_config.specs.Table.{IsKindOf, IsListsOf, IsOfGeometry, IsPart, IsPartOn, IsPlaceOf, IsPlacesOf, IsRowOf, IsRowsOf, first_blocks, quiet_kind, quiet_part, quiet_status, quiet_volume, row_depth, volume_key, width, width_of}
pub use Rattle.mdv_config.specs.Tests.{is_of_geometry}
pub use Rattle.mdv_fields.specs.declared.fault.RecordError.{RecordError}
pub use Rattle.mdv_fields.specs.declared.fault.RecordError.TheVariants.{NotARecord, Memory}
pub use Rattle.mdv_name.specs.SliceIndex.{HasSlice}
pub use Rattle.mdv_name.specs.declared.geometry.Geometry.{Geometry}
pub use Rattle.mdv_name.specs.declared.slice_lines.SliceAt.{SliceAt}
pub use Rattle.mdv_plan.specs.Table.{no_set}
pub use Rattle.mdv_plan.specs.declared.lists.Lists.{Lists}
pub use Rattle.mdv_plan.specs.declared.lists.Lists.TheVariants.{One, Two}
pub use Rattle.mdv_plan.specs.declared.plan.Plan.{Plan}
pub use Rattle.mdv_plan.specs.declared.status.PartStatus.{PartStatus}
pub use Rattle.mdv_plan.specs.declared.table.Table.{Table}
pub use Rattle.mdv_plan.specs.declared.volume.Base.{Base}
pub use Rattle.mdv_plan.specs.declared.volume.Base.TheVariants.{Slice, Volume}
pub use Rattle.mdv_plan.specs.declared.volume.Component.{Component}
pub use Rattle.mdv_plan.specs.declared.volume.Row.{Row}
pub use Rattle.mdv_plan.specs.declared.volume.Stripe.{Stripe as OneStripe}
pub use Rattle.mdv_plan.specs.declared.volume.Volume.{Volume as OneVolume}
pub use Rattle.mdv_plan.specs.declared.volume.VolumeKind.{VolumeKind}
pub use Rattle.mdv_plan.specs.declared.volume.VolumeKind.TheVariants.{Stripe, Mirror, Raid, Soft}
