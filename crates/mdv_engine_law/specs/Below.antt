-- The words of the crates below in which this crate speaks, so that a file of it needs one line of import.
pub use Rattle.mdv_base.specs.Causes.{Failures, failures_of}
pub use Rattle.mdv_base.specs.Causes.{Rose}
pub use Rattle.mdv_base.specs.DriveSet.{Drives, has_drive, no_drives}
pub use Rattle.mdv_base.specs.Refusal.{refusal_text}
pub use Rattle.mdv_base.specs.declared.drive.DriveNo.{DriveNo}
pub use Rattle.mdv_base.specs.declared.drive.SliceName.{SliceName}
pub use Rattle.mdv_base.specs.declared.mark.Identity.{Identity}
pub use Rattle.mdv_base.specs.declared.mark.Mark.{Mark}
pub use Rattle.mdv_base.specs.declared.name.Key.TheVariants.{Local}
pub use Rattle.mdv_base.specs.declared.name.Key.{Key}
pub use Rattle.mdv_base.specs.declared.name.Named.{Named}
pub use Rattle.mdv_base.specs.declared.name.VolId.{VolId}
pub use Rattle.mdv_base.specs.declared.place.Place.{Place}
pub use Rattle.mdv_base.specs.declared.refusal.Refusal.TheVariants.{BadLine, IoFault, LineTooLong, NameTaken, NeedForce, NoDatabase, NoSuchSlice}
pub use Rattle.mdv_base.specs.declared.refusal.Refusal.TheVariants.{NoSuchPool, NoSuchVolume, OutOfMemory, OutOfRange, ReplicaFull, SliceInUse, TooSmall}
pub use Rattle.mdv_base.specs.declared.refusal.Refusal.TheVariants.{TooMany, WrongKind, WrongState}
pub use Rattle.mdv_base.specs.declared.refusal.Refusal.{Refusal}
pub use Rattle.mdv_base.specs.declared.state_word.StateWord.TheVariants.{Absent, Down, Inactive}
pub use Rattle.mdv_base.specs.declared.state_word.StateWord.{StateWord}
pub use Rattle.mdv_databases.specs.Going.{IsOpenIn}
pub use Rattle.mdv_databases.specs.Lasting.{HasNoTable}
pub use Rattle.mdv_dev.specs.Pieces.{drives, has_drive as lies_on, pieces}
pub use Rattle.mdv_dev.specs.Works.{AreOnDisk}
pub use Rattle.mdv_home.specs.Drives.{own_drives, sizes_of}
pub use Rattle.mdv_home.specs.View.{own_view}
pub use Rattle.mdv_listing.specs.Listing.{IsOfQuietLines, listing_of}
pub use Rattle.mdv_map.specs.Maps.{HasDriveBlock, Map, no_map, readings}
pub use Rattle.mdv_map.specs.Requests.{IsOff}
pub use Rattle.mdv_name.specs.Geometry.{IsGeometry}
pub use Rattle.mdv_name.specs.SliceIndex.{HasNoSlice, HasSlice}
pub use Rattle.mdv_name.specs.declared.geometry.Geometry.{Geometry}
pub use Rattle.mdv_name.specs.declared.slice_lines.SliceAt.{SliceAt}
pub use Rattle.mdv_name.specs.declared.slice_lines.SliceLine.{SliceLine}
pub use Rattle.mdv_encoding.specs.Text.{record_bytes, record_text}
pub use Rattle.mdv_replica.specs.declared.replica.Head.{Head}
pub use Rattle.mdv_replica.specs.declared.replica.PlaceAt.{PlaceAt}
pub use Rattle.mdv_replica.specs.declared.replica.Slot.TheVariants.{First, Second}
pub use Rattle.mdv_replica.specs.declared.replica.Slot.{Slot}
pub use Rattle.mdv_shelf.specs.Area.{AreApart, Area, IsKept, KeptOutside, joined, nowhere, range}
pub use Rattle.mdv_shelf.specs.Calls.{OnReplies, and_then}
pub use Rattle.mdv_shelf.specs.Everywhere.{Everywhere, Image}
pub use Rattle.mdv_shelf.specs.Moments.{Ends, Grew, Moments}
pub use Rattle.mdv_shelf.specs.Settle.{IsOldOrNew, IsSynced}
pub use Rattle.mdv_shelf.specs.Tale.{Among, Gave, IsImage, MayLeave, Tale, Then, last, told}
pub use Rattle.mdv_shown.specs.Found.{IsOwn}
pub use Rattle.mdv_shown.specs.Shown.{IsNewestOf}
pub use Rattle.mdv_shown.specs.Site.{site_area}
pub use Rattle.mdv_shown.specs.declared.site.Site.{Site}
pub use Rattle.mdv_shown.specs.Sites.{site_of}
pub use Rattle.mdv_status.specs.Telling.{IsQuietLine, Said, lacks, left_in, one_reply, refused, replies_in, said_in, unsaid, with_reply}
pub use Rattle.mdv_status.specs.Values.{block_text, entries_reply, printed_reply, values_reply}
pub use Rattle.mdv_store.specs.Opened.{IsOpenedAt, Opened, least_room}
pub use Rattle.mdv_store.specs.Records.{Spells}
pub use Rattle.mdv_store.specs.Seats.{active_of, replicas_of, seats_area}
pub use Rattle.mdv_store.specs.declared.booting.BootEnd.{BootEnd}
pub use Rattle.mdv_store.specs.declared.seats.Seat.{Seat}
pub use Rattle.mdv_store_law.specs.Changes.{Change, KeepsPlaces, OfPlan}
pub use Rattle.mdv_store_law.specs.Log.{IsMade, IsNewestTellable, Issue, Log, OfChange, OfCreation, OfEnd, OfPlaces, Version, is_firm}
pub use Rattle.mdv_survey.specs.Replica.{IsOnShelf}
pub use Rattle.mdv_tab.specs.Text.{IsTab}
pub use Rattle.mdv_tab.specs.declared.entry.Entry.{Entry}
pub use Rattle.mdv_config.specs.Slices.{HasBlock, IsSound}
pub use Rattle.mdv_config.specs.Table.{IsOfGeometry}
pub use Rattle.mdv_change.specs.declared.change.Change.{Change as PlanChange}
pub use Rattle.mdv_plan.specs.declared.lists.Lists.TheVariants.{One}
pub use Rattle.mdv_plan.specs.declared.plan.Plan.{Plan}
pub use Rattle.mdv_plan.specs.declared.table.Table.{Table}
pub use Rattle.mdv_plan.specs.declared.volume.Volume.{Volume}
pub use Rattle.mdv_plan.specs.declared.volume.VolumeKind.{VolumeKind}
pub use Rattle.mdv_volumes.specs.Databases.{Database, log_of, same_key}
pub use Rattle.mdv_volumes.specs.Events.{Answers, Begins, Flushes, Issues, VolumeEvent, Woke}
pub use Rattle.mdv_volumes.specs.Happening.{Adds, HasRange, IsCourse, IsIssue, IsNamed, IsThere, MayHappen, issued_by, told_by}
pub use Rattle.mdv_volumes.specs.Histories.{Happens, Stands}
pub use Rattle.mdv_volumes.specs.History.{Acknowledges, Boots, Changed, Crashes, Created, Creation, Deed, Deleted, Deletes, Event, History, OfDatabase, OfVolume, Reads, Saw, Shows, Stops, Unsettles, Wrote}
pub use Rattle.mdv_volumes.specs.History.{history_after, history_after_all}
pub use Rattle.mdv_volumes.specs.HistoryLaws.{AreWoken, CanTell, IsUpon}
pub use Rattle.mdv_volumes.specs.Tables.{IsMapOf, map_of}
pub use Rattle.mdv_words.specs.Line.{Line, blocks_of}
pub use Rattle.mdv_words.specs.Listed.{Replicas, listed_by, meant}
pub use Rattle.mdv_words.specs.declared.command.Command.TheVariants.{AddListed, AddPlaces, Alter, DropPlaces, Print, Read, Write}
pub use Rattle.mdv_words.specs.declared.command.Command.{Command}
