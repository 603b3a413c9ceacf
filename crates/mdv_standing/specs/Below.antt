-- The words of the crates below in which this crate speaks, so that a file of it needs one line of import.
pub use Rattle.mdv_base.specs.Mark.{IsBelow}
pub use Rattle.mdv_base.specs.declared.drive.DriveNo.{DriveNo}
pub use Rattle.mdv_base.specs.declared.mark.Identity.{Identity}
pub use Rattle.mdv_base.specs.declared.mark.Mark.{Mark}
pub use Rattle.mdv_base.specs.declared.name.Key.{Key}
pub use Rattle.mdv_base.specs.declared.name.Key.TheVariants.{Local, Set}
pub use Rattle.mdv_base.specs.declared.place.Place.{Place}
pub use Rattle.mdv_name.specs.SliceIndex.{slice_at}
pub use Rattle.mdv_name.specs.declared.geometry.Geometry.{Geometry}
pub use Rattle.mdv_name.specs.declared.slice_lines.SliceAt.{SliceAt}
pub use Rattle.mdv_name.specs.declared.slice_lines.SliceLine.{SliceLine}
pub use Rattle.mdv_quorum.specs.May.{MayAll, is_fair}
pub use Rattle.mdv_quorum.specs.World.{after_all, last_table, start}
pub use Rattle.mdv_quorum.specs.declared.event.Event.{Event}
pub use Rattle.mdv_quorum.specs.declared.event.Event.TheVariants.{Back, Claimed, Crash, Formatted, Lists as NextLists, Lose, Read, Slotted, Told}
pub use Rattle.mdv_quorum.specs.declared.event.SlotEnd.TheVariants.{Closed as LeftClosed, Holds as Filled}
pub use Rattle.mdv_quorum.specs.declared.machine.Core.{Core}
pub use Rattle.mdv_quorum.specs.declared.machine.Stage.{Stage}
pub use Rattle.mdv_quorum.specs.declared.machine.Stage.TheVariants.{Claiming, Creating, Reading, Ready, Writing}
pub use Rattle.mdv_replica.specs.Form.{IsSpareSlot, IsTable, gate_of, shows}
pub use Rattle.mdv_replica.specs.Images.{Claims, Fills, Formats, MayClaim, MayFill, MayFormat, MayWipe}
pub use Rattle.mdv_replica.specs.declared.forms.Gate.TheVariants.{Open}
pub use Rattle.mdv_replica.specs.declared.forms.Master.{Master}
pub use Rattle.mdv_replica.specs.declared.replica.Head.{Head}
pub use Rattle.mdv_replica.specs.declared.replica.PlaceAt.{PlaceAt}
pub use Rattle.mdv_replica.specs.declared.replica.Slot.{Slot}
pub use Rattle.mdv_replica.specs.declared.replica.Slot.TheVariants.{First, Second}
pub use Rattle.mdv_shelf.specs.Area.{Area, AreApart, KeptOutside}
pub use Rattle.mdv_shelf.specs.Everywhere.{Everywhere, Image, Leaves}
pub use Rattle.mdv_shelf.specs.Tale.{IsImage, Tale}
pub use Rattle.mdv_shown.specs.Choice.{HaveRead, IsChosen, Seen, greatest_seen, spot_seen, spots_seen}
pub use Rattle.mdv_shown.specs.Formats.{IsFormat, master_on}
pub use Rattle.mdv_shown.specs.Found.{IsInChain, IsOwn, IsOwnAt}
pub use Rattle.mdv_shown.specs.Laws.{Reads}
pub use Rattle.mdv_shown.specs.Shown.{Shows, SlotShows}
pub use Rattle.mdv_shown.specs.Site.{IsSite, place_on, site_area, spot_on}
pub use Rattle.mdv_shown.specs.Wipes.{FirstIs, HasFirst}
pub use Rattle.mdv_shown.specs.declared.site.Site.{Site}
pub use Rattle.mdv_shown.specs.Steps.{IsAbove, IsBodyOf, last_number}
pub use Rattle.mdv_store_law.specs.Changes.{Change}
pub use Rattle.mdv_store_law.specs.Log.{Again, Ends, Lives, Log, MayHappen, Over, Version, Writing as WritesLog, Written, log_after}
pub use Rattle.mdv_config.specs.Lists.{last_of}
pub use Rattle.mdv_plan.specs.declared.lists.Lists.{Lists}
pub use Rattle.mdv_plan.specs.declared.lists.Lists.TheVariants.{One, Two}
pub use Rattle.mdv_plan.specs.declared.table.Table.{Table}
pub use Rattle.mdv_votes.specs.Family.{greatest_of, knows_above, newest_of, no_table, place_at, raised, since_after, table_at}
pub use Rattle.mdv_votes.specs.Laws.{IsWithin}
pub use Rattle.mdv_votes.specs.Quorum.{is_claimed, is_read, is_written}
pub use Rattle.mdv_votes.specs.Spots.{covers, is_half, is_in, is_majority, is_named, is_none, last_list, same_spot}
pub use Rattle.mdv_votes.specs.declared.spot.Spot.{Spot}
pub use Rattle.mdv_votes.specs.declared.spot.SpotLists.{SpotLists}
pub use Rattle.mdv_votes.specs.declared.version.Since.{Since}
pub use Rattle.mdv_votes.specs.declared.version.Since.TheVariants.{Dropped, Listed, Never}
pub use Rattle.mdv_votes.specs.declared.version.Version.{Version as FamilyTable}
