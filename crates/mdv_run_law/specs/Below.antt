-- The words of the crates below in which this crate speaks, so that a file of it needs one line of import.
pub use Rattle.mdv_base.specs.Causes.{Rose}
pub use Rattle.mdv_base.specs.Refusal.{refusal_text}
pub use Rattle.mdv_base.specs.declared.drive.SliceName.{SliceName}
pub use Rattle.mdv_base.specs.declared.mark.Identity.{Identity}
pub use Rattle.mdv_base.specs.declared.mark.Mark.{Mark}
pub use Rattle.mdv_base.specs.declared.drive.DriveNo.{DriveNo}
pub use Rattle.mdv_base.specs.declared.name.Key.TheVariants.{Local}
pub use Rattle.mdv_base.specs.declared.name.Key.{Key}
pub use Rattle.mdv_base.specs.declared.name.VolId.{VolId}
pub use Rattle.mdv_base.specs.declared.refusal.Refusal.{Refusal}
pub use Rattle.mdv_base.specs.declared.refusal.Refusal.TheVariants.{BadLine, LineTooLong, NeedForce, NoDatabase, NoSuchSlice, NoSuchVolume}
pub use Rattle.mdv_base.specs.declared.refusal.Refusal.TheVariants.{OutOfMemory, OutOfRange, ReplicaFull, SliceInUse, TooSmall, WrongKind}
pub use Rattle.mdv_base.specs.declared.refusal.Refusal.TheVariants.{TooMany, WrongState}
pub use Rattle.mdv_base.specs.declared.state_word.StateWord.{StateWord}
pub use Rattle.mdv_base.specs.DriveSet.{Drives}
pub use Rattle.mdv_engine_law.specs.Altering.{change_of, table_by}
pub use Rattle.mdv_engine_law.specs.Awake.{Happening, BootBegins, IsAwakeAt}
pub use Rattle.mdv_engine_law.specs.Hosts.{StaysHome, host_area, identity_of, key_of}
pub use Rattle.mdv_engine_law.specs.Commands.{CameTo, ComesTo}
pub use Rattle.mdv_engine_law.specs.Line.{ArePut, AreSeen, HasBlocks}
pub use Rattle.mdv_engine_law.specs.Line.{HasNoTableOn, IsCommitted, IsCreated}
pub use Rattle.mdv_engine_law.specs.Line.{IsRebooted, IsSame, IsSameBeside, IsTurnedDown, Kept}
pub use Rattle.mdv_engine_law.specs.Line.{Ask, Memory, Nothing, Stays, ToBoot, ToDo, ToMake, ToMakeListed, ToSee, asked_by, asked_by_line, change_asked, contents}
pub use Rattle.mdv_engine_law.specs.Line.{kept_at, record_room, unbooted}
pub use Rattle.mdv_engine_law.specs.Replies.{Acks, AcksBy, AcksFront, AcksIn, IsFront, IsPlain, IsRefusal, IsPlainAnswer, IsReplied, IsReply, IsTold, is_front_of, issuable, issuable_front, issuable_in, issuable_of}
pub use Rattle.mdv_engine_law.specs.Replies.{ok_line, refusal_line}
pub use Rattle.mdv_engine_law.specs.Standing.{AreOwn, BootMoment, BootedTo, Does, Executed, IsKnown, IsOfRun, Knows, Reached}
pub use Rattle.mdv_engine_law.specs.Standing.{StandsAt, TurnMoment, Turned}
pub use Rattle.mdv_engine_law.specs.declared.answer.Answer.{Answer}
pub use Rattle.mdv_engine_law.specs.declared.answer.Reply.{Reply}
pub use Rattle.mdv_engine_law.specs.declared.host.Host.{Host}
pub use Rattle.mdv_home.specs.Drives.{own_drives}
pub use Rattle.mdv_home.specs.View.{own_view}
pub use Rattle.mdv_listing.specs.Listing.{listing_of}
pub use Rattle.mdv_map.specs.Maps.{Map, readings}
pub use Rattle.mdv_name.specs.Geometry.{IsGeometry}
pub use Rattle.mdv_name.specs.SliceIndex.{HasNoSlice, HasSlice}
pub use Rattle.mdv_name.specs.declared.geometry.Geometry.{Geometry}
pub use Rattle.mdv_name.specs.declared.slice_lines.SliceAt.{SliceAt}
pub use Rattle.mdv_name.specs.declared.slice_lines.SliceLine.{SliceLine}
pub use Rattle.mdv_port.specs.Script.{Script, at_end, line, spent, too_long}
pub use Rattle.mdv_encoding.specs.Text.{record_bytes, record_text}
pub use Rattle.mdv_replica.specs.Form.{shows}
pub use Rattle.mdv_replica.specs.declared.replica.Head.{Head}
pub use Rattle.mdv_replica.specs.declared.replica.Slot.{Slot}
pub use Rattle.mdv_shelf.specs.Calls.{OnDrive, OnReplies, Part}
pub use Rattle.mdv_shelf.specs.Everywhere.{Everywhere, Image}
pub use Rattle.mdv_shelf.specs.Tale.{Among, IsImage, MayLeave, Tale, covers, last, told, values}
pub use Rattle.mdv_status.specs.Telling.{Said, left_in, one_reply, replies_in, said_in, unsaid}
pub use Rattle.mdv_status.specs.Values.{entries_reply, printed_reply, values_reply}
pub use Rattle.mdv_shown.specs.Found.{IsOwn}
pub use Rattle.mdv_shown.specs.Site.{site_area}
pub use Rattle.mdv_shown.specs.Sites.{site_of}
pub use Rattle.mdv_shown.specs.declared.site.Site.{Site}
pub use Rattle.mdv_standing.specs.Holding.{HasNoReplica}
pub use Rattle.mdv_standing.specs.Laws.{ShowsNoTable}
pub use Rattle.mdv_store.specs.Opened.{IsOpenedAt, Opened}
pub use Rattle.mdv_store.specs.Records.{Spells}
pub use Rattle.mdv_store_law.specs.Laws.{restarted}
pub use Rattle.mdv_store_law.specs.Changes.{Change}
pub use Rattle.mdv_store_law.specs.Log.{AreMade, Extends, IsLog, Log, Version, answered, empty_log, is_firm, with_asked}
pub use Rattle.mdv_tab.specs.Text.{IsTab}
pub use Rattle.mdv_tab.specs.declared.entry.Entry.{Entry}
pub use Rattle.mdv_change.specs.declared.change.Change.{Change as PlanChange}
pub use Rattle.mdv_config.specs.Slices.{HasBlock, IsSound}
pub use Rattle.mdv_config.specs.Table.{IsKindOf, IsOfGeometry}
pub use Rattle.mdv_plan.specs.declared.plan.Plan.{Plan}
pub use Rattle.mdv_plan.specs.declared.table.Table.{Table}
pub use Rattle.mdv_plan.specs.declared.volume.Base.{Base}
pub use Rattle.mdv_plan.specs.declared.volume.Base.TheVariants.{Slice}
pub use Rattle.mdv_plan.specs.declared.volume.Component.{Component}
pub use Rattle.mdv_plan.specs.declared.volume.Volume.{Volume}
pub use Rattle.mdv_plan.specs.declared.volume.VolumeKind.{VolumeKind}
pub use Rattle.mdv_plan.specs.declared.volume.VolumeKind.TheVariants.{Stripe}
pub use Rattle.mdv_volumes.specs.Databases.{Database, log_of, same_key}
pub use Rattle.mdv_volumes.specs.Happening.{IsCourse, IsNamed, MayHappen, issued_by, told_by}
pub use Rattle.mdv_volumes.specs.History.{Acknowledges, Changed, Crashes, Created, Deed, Deleted, Deletes, Event, History, Saw, Stops, Wrote, history_after, history_after_all}
pub use Rattle.mdv_volumes.specs.HistoryLaws.{Lasts, new_history}
pub use Rattle.mdv_words.specs.Line.{Boot, IsCommand, IsInForm, IsLine, Line, Tab, blocks_of}
pub use Rattle.mdv_words.specs.declared.command.Command.{Command}
pub use Rattle.mdv_words.specs.declared.command.Command.TheVariants.{AddListed, AddPlaces, Alter, DropPlaces, Print, Read, Write}
pub use Rattle.mdv_words.specs.Listed.{AreInForm, Replicas, listed_by, meant}
