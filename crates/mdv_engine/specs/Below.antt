-- The words of the crates below in which this crate speaks, so that a file of it needs one line of import.
pub use Rattle.mdv_base.specs.Causes.{Failures}
pub use Rattle.mdv_base.specs.DriveSet.{Drives, has_drive}
pub use Rattle.mdv_base.specs.declared.drive.DriveNo.{DriveNo}
pub use Rattle.mdv_base.specs.declared.drive.SliceName.{SliceName}
pub use Rattle.mdv_base.specs.declared.mark.Identity.{Identity}
pub use Rattle.mdv_base.specs.declared.name.Key.{Key}
pub use Rattle.mdv_base.specs.declared.name.Key.TheVariants.{Local}
pub use Rattle.mdv_base.specs.declared.name.VolId.{VolId}
pub use Rattle.mdv_base.specs.declared.place.Place.{Place}
pub use Rattle.mdv_base.specs.declared.refusal.Refusal.{Refusal}
pub use Rattle.mdv_base.specs.declared.refusal.Refusal.TheVariants.{BadLine, IoFault, NameTaken, NoSuchSlice, OutOfMemory, ReplicaFull, SliceInUse, WrongKind}
pub use Rattle.mdv_databases.specs.Lasting.{HasNoTable}
pub use Rattle.mdv_dev.specs.Drives.{KeptOnDrives}
pub use Rattle.mdv_dev.specs.Pieces.{IsOn, has_drive as lies_on}
pub use Rattle.mdv_dev.specs.Works.{AreOnDisk}
pub use Rattle.mdv_engine_law.specs.Commands.{CameTo, IsAllowed}
pub use Rattle.mdv_engine_law.specs.Efforts.{drives_in, map_open, pieces_in, write_calls_in}
pub use Rattle.mdv_engine_law.specs.Hosts.{IsReady, StaysHome, identity_of, key_of, lines_asked, opened_area, places_area}
pub use Rattle.mdv_engine_law.specs.Line.{AreSeen, HasBlocks, HasUnsettled, IsUpBy, answered_by, booted_with, opened_by}
pub use Rattle.mdv_engine_law.specs.Line.{IsRebooted, IsTurnedDown, Kept, Memory, asked_by, kept_at, record_room, unbooted}
pub use Rattle.mdv_engine_law.specs.Replies.{IsPlain, IsPlainAnswer, text_of}
pub use Rattle.mdv_engine_law.specs.Standing.{BootMoment, BootedTo, CarriedTo, CarryEnd, CarryMoment, Executed, Knows, OnlyReplied, TellMoment, TellsFront, TurnMoment, Turned}
pub use Rattle.mdv_engine_law.specs.declared.answer.Answer.{Answer}
pub use Rattle.mdv_engine_law.specs.declared.answer.Ended.{Ended}
pub use Rattle.mdv_engine_law.specs.declared.host.Host.{Host}
pub use Rattle.mdv_layout_law.specs.Laid.{plain_area}
pub use Rattle.mdv_map.specs.Maps.{HasDriveBlock, Map}
pub use Rattle.mdv_map.specs.Requests.{Rewriting}
pub use Rattle.mdv_name.specs.SliceIndex.{HasNoSlice, HasSlice, same_slice, slice_at}
pub use Rattle.mdv_name.specs.declared.geometry.Geometry.{Geometry}
pub use Rattle.mdv_name.specs.declared.slice_lines.SliceAt.{SliceAt}
pub use Rattle.mdv_name.specs.declared.slice_lines.SliceLine.{SliceLine}
pub use Rattle.mdv_encoding.specs.Text.{record_bytes, record_text}
pub use Rattle.mdv_whole.specs.declared.encoding.TooLong.{TooLong}
pub use Rattle.mdv_shelf.specs.Area.{KeptOutside, nowhere}
pub use Rattle.mdv_shelf.specs.Calls.{OnDrive, OnReplies}
pub use Rattle.mdv_shelf.specs.Failing.{AreCalm, FailedOn, Outcomes}
pub use Rattle.mdv_shelf.specs.Moments.{Ends, Moments}
pub use Rattle.mdv_shelf.specs.Settle.{IsSynced}
pub use Rattle.mdv_shelf.specs.Tale.{MayLeave, Tale, last, told}
pub use Rattle.mdv_shown.specs.Site.{site_area}
pub use Rattle.mdv_shown.specs.declared.site.Site.{Site}
pub use Rattle.mdv_shown.specs.Sites.{site_of}
pub use Rattle.mdv_status.specs.Values.{values_reply}
pub use Rattle.mdv_store.specs.Opened.{IsOpenedAt, Opened}
pub use Rattle.mdv_store.specs.Opened.{shortage}
pub use Rattle.mdv_store.specs.Seats.{AreLaid, active_of, drives_of, replicas_of, seats_area}
pub use Rattle.mdv_store.specs.declared.booting.BootEnd.{BootEnd}
pub use Rattle.mdv_store.specs.declared.creating.CreateFault.{CreateFault}
pub use Rattle.mdv_store.specs.declared.seats.Seat.{Seat}
pub use Rattle.mdv_store.specs.declared.store.CommitFault.{CommitFault}
pub use Rattle.mdv_store_law.specs.Changes.{OfPlan}
pub use Rattle.mdv_survey.specs.declared.replica.Replica.{Replica}
pub use Rattle.mdv_config.specs.Table.{IsKindOf, IsOfGeometry}
pub use Rattle.mdv_change.specs.declared.change.Change.{Change as PlanChange}
pub use Rattle.mdv_plan.specs.declared.table.Table.{Table}
pub use Rattle.mdv_plan.specs.declared.volume.Volume.{Volume}
pub use Rattle.mdv_volumes.specs.History.{Changed, Created, Deed, Saw, Wrote}
pub use Rattle.mdv_volumes.specs.Tables.{IsMapOf}
pub use Rattle.mdv_words.specs.Line.{blocks_of}
pub use Rattle.mdv_words.specs.declared.command.Alteration.{Alteration}
pub use Rattle.mdv_words.specs.declared.command.Command.{Command}
pub use Rattle.mdv_words.specs.declared.command.Command.TheVariants.{AddListed, AddPlaces, Alter, DropPlaces, Read, Write}
pub use Rattle.mdv_words.specs.Listed.{AreInForm, Replicas, listed_by, meant}
