-- The words of the crates below in which this crate speaks, so that a file of it needs one line of import.
pub use Rattle.mdv_base.specs.Causes.{Failures, RoseOnce, Rose}
pub use Rattle.mdv_base.specs.DriveSet.{Drives, has_drive}
pub use Rattle.mdv_base.specs.Mark.{IsBelow}
pub use Rattle.mdv_base.specs.declared.drive.DriveNo.{DriveNo}
pub use Rattle.mdv_base.specs.declared.flags.Flags.{Flags}
pub use Rattle.mdv_base.specs.declared.mark.Identity.{Identity}
pub use Rattle.mdv_base.specs.declared.mark.Mark.{Mark}
pub use Rattle.mdv_base.specs.declared.place.Place.{Place}
pub use Rattle.mdv_name.specs.declared.geometry.Geometry.{Geometry}
pub use Rattle.mdv_name.specs.declared.slice_lines.SliceLine.{SliceLine}
pub use Rattle.mdv_encoding.specs.Parsing.{IsTextOf}
pub use Rattle.mdv_replica.specs.Form.{IsReadable, IsSpareSlot, SlotFits, gate_of, other_slot, room_of, shows, text_of}
pub use Rattle.mdv_replica.specs.Replica.{IsFormed, IsHead, IsPlaced, body_at, slot_blocks, with_blocks}
pub use Rattle.mdv_replica.specs.Seen.{IsMasterAt}
pub use Rattle.mdv_replica.specs.declared.forms.Gate.{Gate}
pub use Rattle.mdv_replica.specs.declared.forms.Gate.TheVariants.{Closed, Open}
pub use Rattle.mdv_replica.specs.declared.forms.Master.{Master}
pub use Rattle.mdv_replica.specs.declared.replica.Head.{Head}
pub use Rattle.mdv_replica.specs.declared.replica.PlaceAt.{PlaceAt}
pub use Rattle.mdv_replica.specs.declared.replica.Slot.{Slot}
pub use Rattle.mdv_replica.specs.declared.replica.Slot.TheVariants.{First, Second}
pub use Rattle.mdv_shelf.specs.Drives.{AreDrives}
pub use Rattle.mdv_shelf.specs.Shelves.{MadeCalls}
pub use Rattle.mdv_shelf.specs.Tale.{Tale, last}
pub use Rattle.mdv_shelf.specs.declared.shelf.Shelf.{Ghosts}
pub use Rattle.mdv_shown.specs.Found.{Counts, IsFound, IsInChain}
pub use Rattle.mdv_shown.specs.Shown.{ShowsNone, SlotShows}
pub use Rattle.mdv_shown.specs.Site.{IsSite, place_on, size_on}
pub use Rattle.mdv_shown.specs.declared.site.Site.{Site}
pub use Rattle.mdv_plan.specs.declared.lists.Lists.{Lists}
pub use Rattle.mdv_plan.specs.declared.lists.Lists.TheVariants.{One, Two}
pub use Rattle.mdv_plan.specs.declared.table.Table.{Table}
