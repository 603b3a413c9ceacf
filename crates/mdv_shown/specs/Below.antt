-- The words of the crates below in which this crate speaks, so that a file of it needs one line of import.
pub use Rattle.mdv_base.specs.Mark.{IsBelow}
pub use Rattle.mdv_base.specs.declared.drive.DriveNo.{DriveNo}
pub use Rattle.mdv_base.specs.declared.mark.Identity.{Identity}
pub use Rattle.mdv_base.specs.declared.mark.Mark.{Mark}
pub use Rattle.mdv_base.specs.declared.name.Key.{Key}
pub use Rattle.mdv_base.specs.declared.place.Place.{Place}
pub use Rattle.mdv_name.specs.declared.slice_lines.SliceLine.{SliceLine}
pub use Rattle.mdv_quorum.specs.May.{may}
pub use Rattle.mdv_quorum.specs.Standing.{IsFamily}
pub use Rattle.mdv_quorum.specs.World.{after_all, happens, last_table}
pub use Rattle.mdv_quorum.specs.declared.event.Event.{Event}
pub use Rattle.mdv_quorum.specs.declared.event.Event.TheVariants.{Claimed, Formatted, Slotted, Wiped}
pub use Rattle.mdv_quorum.specs.declared.event.SlotEnd.TheVariants.{Closed as LeftClosed, Holds}
pub use Rattle.mdv_quorum.specs.declared.machine.Core.{Core}
pub use Rattle.mdv_quorum.specs.declared.machine.Stage.{Stage}
pub use Rattle.mdv_quorum.specs.declared.machine.Stage.TheVariants.{Claiming, Creating, Reading, Ready, Writing}
pub use Rattle.mdv_replica.specs.Form.{IsReadable, IsSpare, IsSpareSlot, IsTable, SlotFits, formatted_head, gate_of, greatest, other_slot, room_of, shows, text_of}
pub use Rattle.mdv_replica.specs.Form.{with_claim as claimed_head, with_slot}
pub use Rattle.mdv_replica.specs.Images.{Claims, Fills, Formats, IsSame, MayClaim, MayFill, MayFormat, MayWipe, SameOutside, Wipes}
pub use Rattle.mdv_replica.specs.Images.{blanked, closed, filled, formatted, untouched}
pub use Rattle.mdv_replica.specs.Forms.{IsMaster, block_of, claim_text, gate_text}
pub use Rattle.mdv_replica.specs.Replica.{IsHead, LiesAt, body_at, gate_at, head_area, master_of, slot_area, slot_blocks, with_blocks}
pub use Rattle.mdv_replica.specs.Seen.{IsMasterAt}
pub use Rattle.mdv_replica.specs.declared.forms.Gate.{Gate}
pub use Rattle.mdv_replica.specs.declared.forms.Gate.TheVariants.{Closed, Open}
pub use Rattle.mdv_replica.specs.declared.forms.Master.{Master}
pub use Rattle.mdv_replica.specs.declared.replica.Head.{Head}
pub use Rattle.mdv_replica.specs.declared.replica.PlaceAt.{PlaceAt}
pub use Rattle.mdv_replica.specs.declared.replica.Slot.{Slot}
pub use Rattle.mdv_replica.specs.declared.replica.Slot.TheVariants.{First, Second}
pub use Rattle.mdv_shelf.specs.Area.{AreApart, Area, range}
pub use Rattle.mdv_shelf.specs.Everywhere.{Image, RestsOn}
pub use Rattle.mdv_votes.specs.Family.{greatest_of, newest_of, place_at, put_at, table_at, with_claim, with_newest}
pub use Rattle.mdv_votes.specs.Spots.{covers, covers_second, is_in, is_majority, is_named}
pub use Rattle.mdv_votes.specs.declared.spot.Spot.{Spot}
pub use Rattle.mdv_votes.specs.declared.version.SpotState.{SpotState}
pub use Rattle.mdv_votes.specs.declared.version.Version.{Version}
