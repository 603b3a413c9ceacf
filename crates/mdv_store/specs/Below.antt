-- The words of the crates below in which this crate speaks, so that a file of it needs one line of import.
pub use Rattle.mdv_base.specs.Causes.{Failures}
pub use Rattle.mdv_base.specs.DriveSet.{Drives, has_drive}
pub use Rattle.mdv_base.specs.Mark.{IsBelow}
pub use Rattle.mdv_base.specs.declared.drive.DriveNo.{DriveNo}
pub use Rattle.mdv_base.specs.declared.mark.Identity.{Identity}
pub use Rattle.mdv_base.specs.declared.mark.Mark.{Mark}
pub use Rattle.mdv_base.specs.declared.name.Key.{Key}
pub use Rattle.mdv_base.specs.declared.place.Place.{Place}
pub use Rattle.mdv_name.specs.Sound.{IsSound}
pub use Rattle.mdv_name.specs.declared.geometry.Geometry.{Geometry}
pub use Rattle.mdv_name.specs.declared.slice_lines.SliceLine.{SliceLine}
pub use Rattle.mdv_quorum.specs.declared.event.Event.{Event}
pub use Rattle.mdv_quorum.specs.declared.machine.Core.{Core}
pub use Rattle.mdv_encoding.specs.Text.{record_bytes, record_text}
pub use Rattle.mdv_whole.specs.declared.encoding.TooLong.{TooLong}
pub use Rattle.mdv_replica.specs.Form.{IsSpareSlot, IsTable, gate_of, greatest, room_of, with_slot}
pub use Rattle.mdv_replica.specs.Forms.{IsMark}
pub use Rattle.mdv_replica.specs.Replica.{IsPlaced, slot_blocks}
pub use Rattle.mdv_replica.specs.declared.forms.Gate.TheVariants.{Open}
pub use Rattle.mdv_replica.specs.declared.replica.Head.{Head}
pub use Rattle.mdv_replica.specs.declared.replica.PlaceAt.{PlaceAt}
pub use Rattle.mdv_replica.specs.declared.replica.Slot.{Slot}
pub use Rattle.mdv_replica.specs.declared.replica.Slot.TheVariants.{First, Second}
pub use Rattle.mdv_shelf.specs.Area.{Area, KeptOutside, nowhere, range}
pub use Rattle.mdv_shelf.specs.Between.{TookBetween}
pub use Rattle.mdv_shelf.specs.Everywhere.{Everywhere, Image}
pub use Rattle.mdv_shelf.specs.Settle.{IsSynced}
pub use Rattle.mdv_shelf.specs.Tale.{Synced, Tale, Then, last, told}
pub use Rattle.mdv_shelf.specs.declared.shelf.Shelf.{Ghosts}
pub use Rattle.mdv_shown.specs.Found.{Counts, IsOwn}
pub use Rattle.mdv_shown.specs.Shown.{IsNewestOf}
pub use Rattle.mdv_shown.specs.Site.{place_on, site_area, spot_on}
pub use Rattle.mdv_shown.specs.Sites.{site_of}
pub use Rattle.mdv_shown.specs.Steps.{IsAbove, IsBodyOf}
pub use Rattle.mdv_shown.specs.declared.site.Site.{Site}
pub use Rattle.mdv_standing.specs.Databases.{Database}
pub use Rattle.mdv_standing.specs.Matching.{by_majority_on, spots_of as lists_of_spots}
pub use Rattle.mdv_standing.specs.Rest.{RestStands}
pub use Rattle.mdv_standing.specs.Standing.{Covers, CoversWith}
pub use Rattle.mdv_standing.specs.Tracing.{IsBootRun, IsCommitRun, IsVersionWith, Traces, TracesFrom, claims_at, fills_at}
pub use Rattle.mdv_standing.specs.Turning.{IsNewest, IsOpen}
pub use Rattle.mdv_standing.specs.Worlds.{IsReadyWith, IsTaking, MayBeClaimed}
pub use Rattle.mdv_store_law.specs.Changes.{Change}
pub use Rattle.mdv_store_law.specs.Log.{IsMade, Log, Version, asks_of}
pub use Rattle.mdv_store_law.specs.Part.{IsPart}
pub use Rattle.mdv_survey.specs.Newest.{HasNoneAbove}
pub use Rattle.mdv_survey.specs.Replica.{at_of}
pub use Rattle.mdv_survey.specs.declared.replica.Replica.{Replica}
pub use Rattle.mdv_config.specs.Lists.{last_of, places_of, settled}
pub use Rattle.mdv_config.specs.Table.{IsOfGeometry}
pub use Rattle.mdv_plan.specs.declared.lists.Lists.{Lists}
pub use Rattle.mdv_plan.specs.declared.lists.Lists.TheVariants.{One, Two}
pub use Rattle.mdv_plan.specs.declared.table.Table.{Table}
pub use Rattle.mdv_votes.specs.Spots.{is_named, same_spot}
pub use Rattle.mdv_votes.specs.declared.spot.Spot.{Spot}
