-- The words of the crates below in which this crate speaks, so that a file of it needs one line of import.
pub use Rattle.mdv_base.specs.Causes.{Rose}
pub use Rattle.mdv_base.specs.declared.refusal.Refusal.TheVariants.{LineTooLong, OutOfMemory, TooMany}
pub use Rattle.mdv_engine.specs.Engine.{FailedOnSite, HasBootCause, IsLostOnSite, IsWell, boot_answer}
pub use Rattle.mdv_engine.specs.declared.engine.Engine.{Engine}
pub use Rattle.mdv_engine_law.specs.Hosts.{IsReady, StaysHome, key_of}
pub use Rattle.mdv_engine_law.specs.Line.{IsRebooted, IsSame, IsTurnedDown, Kept, Memory, asked_by, contents, kept_at, unbooted}
pub use Rattle.mdv_engine_law.specs.Replies.{IsReplied, IsTold}
pub use Rattle.mdv_engine_law.specs.Standing.{TellsFront, BootMoment, BootedTo, Executed, Knows, Replied, TurnMoment, Turned}
pub use Rattle.mdv_engine_law.specs.declared.answer.Answer.{Answer}
pub use Rattle.mdv_engine_law.specs.declared.answer.Ended.{Ended}
pub use Rattle.mdv_engine_law.specs.declared.answer.Reply.{Reply}
pub use Rattle.mdv_engine_law.specs.declared.host.Host.{Host}
pub use Rattle.mdv_home.specs.View.{own_view}
pub use Rattle.mdv_name.specs.declared.geometry.Geometry.{Geometry}
pub use Rattle.mdv_port.specs.Reader.{Reader}
pub use Rattle.mdv_port.specs.Script.{Script, at_end, line, spent, too_long}
pub use Rattle.mdv_items.specs.Items.{IsItem, IsItemTurn, Items, asked_before, asked_of}
pub use Rattle.mdv_items.specs.declared.reader.ItemEnd.TheVariants.{End, Item, Spent, TooLong}
pub use Rattle.mdv_run_law.specs.Run.{AreLast, AreShown, At, Counts, IsLastShown, IsNextFront, NextFront, HasStatusCause, IsAnswered, IsLeft, IsShown, IsWholeRun, LineTold, LinesTold, NextLine, RoseTo, Runs, Stretch, counts}
pub use Rattle.mdv_run_law.specs.Told.{IsToldBy, LinesToldBy}
pub use Rattle.mdv_run_law.specs.Run.{replies_failed, source_failed, status_of}
pub use Rattle.mdv_run_law.specs.Standing.{Asks, LinesMoment, RanTo, RunMoment, behind}
pub use Rattle.mdv_run_law.specs.Lives.{host_of}
pub use Rattle.mdv_run_law.specs.Usage.{IsUsed}
pub use Rattle.mdv_run_law.specs.declared.status.RunStatus.{RunStatus}
pub use Rattle.mdv_run_law.specs.declared.status.RunStatus.TheVariants.{Done, NoMemory, NoQuorum, NumbersSpent, Panic, ReadFault, ScriptTooLong}
pub use Rattle.mdv_run_law.specs.declared.status.RunStatus.TheVariants.{SomeRefused, TwoDatabases, Usage, WriteFault}
pub use Rattle.mdv_shelf.specs.Calls.{Keeps, OnDrive, OnReplies, Part}
pub use Rattle.mdv_shelf.specs.Moments.{Ends, Moments}
pub use Rattle.mdv_shelf.specs.Tale.{Tale, told}
pub use Rattle.mdv_shown.specs.Site.{site_area}
pub use Rattle.mdv_shown.specs.Sites.{site_of}
pub use Rattle.mdv_shown.specs.declared.site.Site.{Site}
pub use Rattle.mdv_status.specs.Telling.{replies_in}
pub use Rattle.mdv_words.specs.Line.{Boot, IsCommand, IsInForm, IsLine, Line as Spelled, tab_text}
pub use Rattle.mdv_words.specs.declared.command.Command.{Command}
pub use Rattle.mdv_words.specs.declared.command.Command.TheVariants.{AddListed, AddPlaces, Alter, DropPlaces, Read, Write}
pub use Rattle.mdv_words.specs.Listed.{Replicas, listed_by, meant}
