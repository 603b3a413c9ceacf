-- The run of one host, told by what its script asks.
use Rattle.std.specs.Prelude.{◌≡◌, ◌≢◌, ◌⊎◌, ◌≤◌, ◌<◌, ◌+◌, ◌*◌, ℕ, Bool, true, false, List, [], ◌++◌, take, length, Option, Some, IfSome, AllPairs, Contains, if◌then◌else◌, None}
use Rattle.mdv_base.specs.Causes.{RoseOnce, failures_of}
use Rattle.mdv_base.specs.DriveSet.{has_drive}
use Rattle.mdv_base.specs.declared.drive.DriveNo.{DriveNo}
use Rattle.mdv_shelf.specs.Failing.{AreCalm, Outcomes}
use Rattle.mdv_home.specs.View.{own_view}
use Rattle.mdv_name.specs.declared.geometry.Geometry.{Geometry}
use Rattle.mdv_shelf.specs.Made.{Made, made_between}
use Rattle.mdv_shelf.specs.Moments.{IsSince}
use Rattle.mdv_shelf.specs.Settle.{IsSynced}
use Rattle.mdv_run_law.specs.Below.{Image, IsOpenedAt, Local, Rose, BadLine, LineTooLong, OutOfMemory, Script, key_of, at_end, spent, too_long, line, Part, OnDrive, OnReplies, Tale, told, replies_in, IsSound, Line, IsLine, Answer, Host, site_of, Kept, IsSame, IsSameBeside, ComesTo, IsRebooted, IsTurnedDown, SliceLine, contents, meant, unbooted}
use Rattle.mdv_shelf.specs.Story.{Effort, Tally, Moment, Story, Mark, marked, AtEach, InTime, tale_of}
use Rattle.mdv_engine_law.specs.Replies.{outcome_text, refusal_line, text_of}
use Rattle.mdv_engine_law.specs.declared.answer.Answer.TheVariants.{Said, Over as Ends}
use Rattle.mdv_engine_law.specs.declared.answer.Ended.{Ended}
use Rattle.mdv_engine_law.specs.declared.answer.Ended.TheVariants as stop
use Rattle.mdv_engine_law.specs.declared.answer.Outcome.TheVariants as outcome
pub use Rattle.mdv_engine_law.specs.Answers.{IsMereRefusal, IsSaid}
use Rattle.mdv_base.specs.declared.refusal.Refusal.TheVariants.{IoFault}
use Rattle.mdv_engine_law.specs.Answers.{EndsUnwritten, accepted, refusing}
use Rattle.mdv_engine_law.specs.Refusals.{refusal_of}
use Rattle.mdv_engine_law.specs.Line.{Memory}
use Rattle.mdv_engine_law.specs.Standing.{BootedTo, LeavesDone, LeavesTorn, LineWrites}
pub use Rattle.mdv_run_law.specs.Standing.{IsNoCommand}
use Rattle.mdv_run_law.specs.Standing.{RanTo}
use Rattle.mdv_words.specs.Line.{Boot, Exec}
use Rattle.mdv_words.specs.declared.command.Command.{Command}
use Rattle.mdv_words.specs.declared.command.Command.TheVariants.{AddPlaces, DropPlaces}
use Rattle.mdv_shelf.specs.Area.{KeptOutside, nowhere}
use Rattle.mdv_shown.specs.Site.{site_area}
use Rattle.mdv_engine_law.specs.Efforts.{BootCalls, LineCalls, NoCalls, replied_to}
use Rattle.mdv_run_law.specs.declared.status.RunStatus.{RunStatus}
use Rattle.mdv_run_law.specs.declared.status.RunStatus.TheVariants.{Done, SomeRefused, Usage, NoQuorum, Panic, ReadFault, WriteFault, NoMemory, TwoDatabases, ScriptTooLong, NumbersSpent}

-- how often each part had failed by then: each drive by its number, the source of the script, and the giving of replies
pub record Counts : Type 0 where
  pub drives : ℕ → ℕ
  pub source : ℕ
  pub replies : ℕ

-- from the counts of the drives and replies, and that of the source
abbrev pub counts : (Part → ℕ) → ℕ → Counts
counts faults source = record { drives = λ drive. faults (OnDrive drive); source = source; replies = faults OnReplies }

-- no count fell
pub record RoseTo (now later : Counts) : Type 0 where
  pub drives : (drive : ℕ) → now.drives drive ≤ later.drives drive
  pub source : now.source ≤ later.source
  pub replies : now.replies ≤ later.replies

-- between two points no drive's count fell, and no call of the source or of the giving of replies failed
pub record RoseCalmly (now later : Counts) : Type 0 where
  pub drives : (drive : ℕ) → now.drives drive ≤ later.drives drive
  pub source : later.source ≡ now.source
  pub replies : later.replies ≡ now.replies

-- one call of the source failed, and nothing else
pub record OnlyUnread (now later : Counts) : Type 0 where
  pub drives : (drive : ℕ) → later.drives drive ≡ now.drives drive
  pub source : RoseOnce now.source later.source
  pub no_fewer : now.source ≤ later.source
  pub replies : later.replies ≡ now.replies

-- no call failed but the giving of replies
pub record OnlyUngiven (now later : Counts) : Type 0 where
  pub drives : (drive : ℕ) → later.drives drive ≡ now.drives drive
  pub source : later.source ≡ now.source
  pub replies : now.replies ≤ later.replies

-- how the calls on each drive came out
abbrev pub drive_failures : Counts → Counts → Outcomes
drive_failures now later drive = failures_of (now.drives drive) (later.drives drive)

-- a call failed on some drive
abbrev pub drive_failed : Counts → Counts → Type 0
drive_failed now later = (drive : ℕ) × Rose (now.drives drive) (later.drives drive)

-- one on a drive with a slice on which replicas of the host's may lie
abbrev pub site_failed : Host → Counts → Counts → Type 0
site_failed host now later = (line : SliceLine) × Contains host.site.lines line × Rose (now.drives line.at.drive.0) (later.drives line.at.drive.0)

abbrev pub source_failed : Counts → Counts → Type 0
source_failed now later = Rose now.source later.source

abbrev pub replies_failed : Counts → Counts → Type 0
replies_failed now later = Rose now.replies later.replies

-- one giving of replies failed
abbrev pub giving_failed : Counts → Counts → Type 0
giving_failed now later = RoseOnce now.replies later.replies

-- nothing is done, for memory was wanting to read it
abbrev pub IsUnread : Outcomes → Kept → Answer → Kept → Type 0
IsUnread calls kept answer next = AreCalm calls × IsTurnedDown OutOfMemory kept answer next

-- What a line comes to, or a block: one that isn't built is refused, and another comes to what it asks; or memory was wanting to read it.
abbrev pub IsAnswered : Outcomes → Host → Kept → List ℕ → Answer → Kept → Type 0
IsAnswered calls host kept text answer next =
    (IsNoCommand text × AreCalm calls × IsTurnedDown BadLine kept answer next) ⊎ (((spelled : Line) × IsLine text spelled × ComesTo calls host kept spelled answer next) ⊎ IsUnread calls kept answer next)

-- the run is over for want of places, numbers or memory, or for two databases: what a crash leaves then isn't said
abbrev pub IsLostStatus : RunStatus → Type 0
IsLostStatus (NoQuorum readable needed) = Unit {0}
IsLostStatus (Panic active listed) = Unit {0}
IsLostStatus (TwoDatabases a b) = Unit {0}
IsLostStatus NumbersSpent = Unit {0}
IsLostStatus NoMemory = Unit {0}
IsLostStatus other = ⊥

-- How a run is over: nothing more is told, and this is kept.
pub record Stops (known : Kept) (end : RunStatus) (told : List ℕ) (status : RunStatus) (last : Kept) : Type 0 where
  pub silent : told ≡ []
  pub ended : status ≡ end
  pub keeps : last ≡ known

abbrev pub status_of : Bool → RunStatus
status_of refused = if refused then SomeRefused else Done

-- Where a run is between two lines: the counts by then, the story by then and how many calls were made until then, what is kept, whether some reply was a refusal,
-- and the script that is left.
pub record At : Type 0 where
  pub counts : Counts
  pub story : Option Story
  pub effort : Effort
  pub kept : Kept
  pub refused : Bool
  pub script : Script

-- What the next line comes to, and the script behind it. The source gave it, and no giving of replies failed: the counts are those behind a reply that was
-- told whole, and those before one that wasn't. It is excused by a count that rose between these counts alone, and a call on a drive that failed between
-- them comes out in its answer.
abbrev pub NextLine : Host → Counts → Kept → Script → Answer → Counts → Kept → Script → Type 0
NextLine host now kept at_end answer later next more = ⊥
NextLine host now kept (spent lines bytes) answer later next more = ⊥
NextLine host now kept (too_long rest) answer later next more = (more ≡ rest) × RoseCalmly now later × AreCalm (drive_failures now later) × IsTurnedDown LineTooLong kept answer next
NextLine host now kept (line text rest) answer later next more = (more ≡ rest) × RoseCalmly now later × IsAnswered (drive_failures now later) host kept text answer next

-- the calls of a line by its text: none of one that isn't built, nor where memory was wanting to read it
abbrev pub TextCalls : Outcomes → Made → Host → Kept → List ℕ → Answer → Kept → Type 0
TextCalls calls made host kept text answer next = (IsNoCommand text × NoCalls made) ⊎ (((spelled : Line) × IsLine text spelled × LineCalls calls made host kept spelled answer next) ⊎ ((answer ≡ refusing OutOfMemory) × NoCalls made))

-- and of the next line of a script
abbrev pub NextCalls : Outcomes → Made → Host → Kept → Script → Answer → Kept → Type 0
NextCalls calls made host kept at_end answer next = ⊥
NextCalls calls made host kept (spent lines bytes) answer next = ⊥
NextCalls calls made host kept (too_long rest) answer next = NoCalls made
NextCalls calls made host kept (line text rest) answer next = TextCalls calls made host kept text answer next

-- The blocks that a line may write, by its text, where this is in memory: all others are kept, and each where the line isn't built. A line may write none at all.
abbrev pub TextWrites : Host → Memory → List ℕ → Tale → Tale → Type 0
TextWrites host memory text t u = KeptOutside nowhere t u ⊎ ((spelled : Line) × IsLine text spelled × LineWrites host spelled memory t u)

-- and the next line of a script
abbrev pub NextWrites : Host → Memory → Script → Tale → Tale → Type 0
NextWrites host memory at_end t u = ⊥
NextWrites host memory (spent lines bytes) t u = ⊥
NextWrites host memory (too_long rest) t u = KeptOutside nowhere t u
NextWrites host memory (line text rest) t u = TextWrites host memory text t u

-- it holds from one point of a story to another
abbrev pub FromTo : (Tale → Tale → Type 0) → Option Story → Option Story → Type 0
FromTo P old new = (s u : Story) → old ≡ Some s → new ≡ Some u → P (tale_of s) (tale_of u)

-- whether some reply was a refusal, with this answer
abbrev pub refused_by : Answer → Bool → Bool
refused_by (Said (outcome.Refused refusal)) before = true
refused_by other before = before

-- the status of a run that is over with a line, or with its boot
abbrev pub status_at : Ended → RunStatus
status_at (stop.NoQuorum readable needed) = NoQuorum readable needed
status_at (stop.TwoDatabases a b) = TwoDatabases a b
status_at (stop.Lost active listed) = Panic active listed
status_at stop.Spent = NumbersSpent
status_at stop.Memory = NoMemory

-- From one point of a story to another, by the counts at the first: no call that changed something was made behind one on the same part that failed.
pub record AreInTime (now : Counts) (old new : Option Story) : Type 0 where
  pub drives : (drive : ℕ) → InTime (OnDrive drive) (now.drives drive) old new
  pub replies : InTime OnReplies now.replies old new

-- The point between two lines and the next one: the story goes on from the one to the other, in time; this was told in between; and at the second point the
-- drive's blocks read as they are kept there.
pub record IsPassage (now : At) (piece : List ℕ) (later : At) : Type 0 where
  pub in_time : AreInTime now.counts now.story later.story
  pub told : (s u : Story) → now.story ≡ Some s → later.story ≡ Some u → told (tale_of u) ≡ told (tale_of s) ++ piece
  pub reads : (u : Story) → later.story ≡ Some u → IsSame later.kept.content (contents (tale_of u))

-- of each of the drives that a boot of the host brings up, on which no call failed, a crash leaves then what a read gives
abbrev pub AreSynced : Host → Outcomes → Tale → Type 0
AreSynced host calls u = (drive : DriveNo) → Contains host.site.drives drive → ((calls drive.0).some → ⊥) → IsSynced drive.0 u

-- What a line with this text leaves that was told `ok`, where its calls came out so and this was in memory: a write its blocks on the disk, with all that the drive was
-- given before; replicas that come one at each of their places, whatever a crash leaves, where it names an entry those that the kept one says; those that go nothing there, but on drives on which a call failed; and `boot` each of the host's own drives synced on which no call failed.
pub record TextLeaves (calls : Outcomes) (host : Host) (memory : Memory) (text : List ℕ) (u : Tale) : Type 0 where
  pub done : (command : Command) → IsLine text (Exec command) → LeavesDone calls host memory (meant memory.entries command) u
  pub synced : IsLine text Boot → AreSynced host calls u

-- and the next line of a script
abbrev pub NextLeaves : Outcomes → Host → Memory → Script → Tale → Type 0
NextLeaves calls host memory (line text rest) u = TextLeaves calls host memory text u
NextLeaves calls host memory other u = Unit {0}

-- what a line with this text leaves that a failed call ended: a deletion of all places none of its wipes undone by a crash, but on drives on which a call failed
abbrev pub TextTorn : Outcomes → Host → Memory → List ℕ → Tale → Type 0
TextTorn calls host memory text u = (command : Command) → IsLine text (Exec command) → LeavesTorn calls host memory (meant memory.entries command) u

abbrev pub NextTorn : Outcomes → Host → Memory → Script → Tale → Type 0
NextTorn calls host memory (line text rest) u = TextTorn calls host memory text u
NextTorn calls host memory other u = Unit {0}

-- the next line is `boot`
abbrev pub NextBoots : Script → Type 0
NextBoots (line text more) = IsLine text Boot
NextBoots other = ⊥

-- By such an answer, behind which this is in memory, a line wrote nothing: a refusal for another cause than a failed call, or, where it is `boot`, that of one which found nothing.
abbrev pub IsUnwritten : Type 0 → Answer → Memory → Type 0
IsUnwritten boots answer next = IsMereRefusal answer ⊎ (boots × (answer ≡ accepted) × (next.opened ≡ None))

-- A line that was answered, and whose reply was told whole: by as many calls as it takes, and one, by which no block was written but those that it may write, none where it was
-- refused for another cause than a failed call, nor by a boot that found nothing; and a write that was told `ok` is on the disk, a creation that was told it has a replica at each of its places, and behind
-- a `boot` that was told it the own drives are synced on which none of its calls failed.
pub record LineTold (host : Host) (now : At) (piece : List ℕ) (later : At) : Type 0 where
  pub answer : Answer
  pub comes : NextLine host now.counts now.kept now.script answer later.counts later.kept later.script
  pub calls : NextCalls (drive_failures now.counts later.counts) (replied_to answer (made_between now.effort later.effort)) host now.kept now.script answer later.kept
  pub writes : FromTo (NextWrites host now.kept.memory now.script) now.story later.story
  pub unwritten : IsUnwritten (NextBoots now.script) answer later.kept.memory → FromTo (KeptOutside nowhere) now.story later.story
  pub leaves : answer ≡ accepted → FromTo (λ t u. NextLeaves (drive_failures now.counts later.counts) host now.kept.memory now.script u) now.story later.story
  pub torn : answer ≡ refusing IoFault → FromTo (λ t u. NextTorn (drive_failures now.counts later.counts) host now.kept.memory now.script u) now.story later.story
  pub leads : FromTo (RanTo host now.script now.kept.memory later.kept.memory later.script) now.story later.story
  pub said : IsSaid answer
  pub as_text : piece ≡ text_of answer
  pub as_refused : later.refused ≡ refused_by answer now.refused
  pub passage : IsPassage now piece later

-- Where the run was behind a reply of so many bytes, with so many told before it. At no moment before the reply's last byte was told was a drive's
-- or the replies' count greater, and at none from its first byte on is it less: the counts are those with which it was told. At each moment by which some of it was told,
-- and not all, the drive's blocks read as they are kept, and all calls were made but one, which tells it: so the calls of a line are those between two replies, and those of
-- the first line, with the boot's, those until its reply.
pub record AreShown (bytes piece : ℕ) (now : At) (t m : Moment) : Type 0 where
  pub before : length (told m.tale) < length (told t.tale) + (bytes + piece) → RoseTo (counts m.faults now.counts.source) now.counts
  pub behind : length (told t.tale) + bytes < length (told m.tale) → RoseTo now.counts (counts m.faults now.counts.source)
  pub reads : length (told t.tale) + bytes < length (told m.tale) → length (told m.tale) < length (told t.tale) + (bytes + piece) → IsSame now.kept.content (contents m.tale)
  pub calls : length (told t.tale) + bytes < length (told m.tale) → length (told m.tale) < length (told t.tale) + (bytes + piece) → (made_between m.effort now.effort).exactly 1 0

-- The line with which a run is over, with so many bytes told before its reply, by which each drive had failed so often and was left so. At no moment before the first
-- byte of its reply was told had one failed more often; at none from there on less, and from there on their blocks read so.
pub record AreLast (bytes : ℕ) (drives : ℕ → ℕ) (content : Image) (t m : Moment) : Type 0 where
  pub before : length (told m.tale) ≤ length (told t.tale) + bytes → (drive : ℕ) → m.faults (OnDrive drive) ≤ drives drive
  pub behind : length (told t.tale) + bytes < length (told m.tale) → (drive : ℕ) → drives drive ≤ m.faults (OnDrive drive)
  pub reads : length (told t.tale) + bytes < length (told m.tale) → IsSame content (contents m.tale)

-- how far a bench is: its story, and how many calls were made so far
pub record Progress : Type 0 where
  pub story : Option Story
  pub effort : Effort

-- what a bench told and counted, from one point to another
pub record Stretch : Type 0 where
  pub old : Option Story
  pub before : Tally
  pub new : Option Story
  pub after : Tally

-- it ends where a run is behind a line: nothing more was told, done or called
pub record EndsAt (stretch : Stretch) (story : Option Story) (effort : Effort) : Type 0 where
  pub quiet : stretch.new ≡ story
  pub uncalled : stretch.after.effort ≡ effort

-- It ends behind a line with which a run is over: no call that changed something was made behind one on the same part that failed, and the line took as many calls
-- as it takes, its reply's among them, and wrote no block but those that it may write; none, where it is over and no places were lost.
pub record EndsBehind (stretch : Stretch) (host : Host) (now : At) (later : Counts) (answer : Answer) (next : Kept) : Type 0 where
  pub in_time : AreInTime now.counts now.story stretch.new
  pub calls : NextCalls (drive_failures now.counts later) (replied_to answer (made_between now.effort stretch.after.effort)) host now.kept now.script answer next
  pub writes : FromTo (NextWrites host now.kept.memory now.script) now.story stretch.new
  pub unwritten : EndsUnwritten answer → FromTo (KeptOutside nowhere) now.story stretch.new

-- A point of what the bench told, by which the parts had failed so often, nothing was told, and the drive's blocks read so; no call until then that changed something was made
-- behind one on the same part that failed.
pub record IsPoint (stretch : Stretch) (source : ℕ) (now : Counts) (by : Progress) (content : Image) : Type 0 where
  pub faults : Part → ℕ
  pub before : AtEach (λ _ _. Unit {0}) stretch.old stretch.before by.story (record { faults = faults; effort = by.effort })
  pub behind : AtEach (λ _ _. Unit {0}) by.story (record { faults = faults; effort = by.effort }) stretch.new stretch.after
  pub counts_are : now ≡ counts faults source
  pub in_time : AreInTime (counts stretch.before.faults source) stretch.old by.story
  pub quiet : (s u : Story) → stretch.old ≡ Some s → by.story ≡ Some u → told (tale_of u) ≡ told (tale_of s)
  pub reads : (s : Story) → by.story ≡ Some s → IsSame content (contents (tale_of s))

-- the moments between show it so
abbrev pub IsShown : Stretch → ℕ → ℕ → At → Type 0
IsShown stretch bytes piece now = AtEach (AreShown bytes piece now) stretch.old stretch.before stretch.new stretch.after

abbrev pub IsLastShown : Stretch → ℕ → (ℕ → ℕ) → Image → Type 0
IsLastShown stretch bytes drives content = AtEach (AreLast bytes drives content) stretch.old stretch.before stretch.new stretch.after

-- Such lines, one behind the other, and what was told of them behind so many bytes, of each at least one. The counts and the calls between two lines, and what the drive's blocks read
-- as there, are those that the moments show.
pub data LinesTold (host : Host) (stretch : Stretch) : ℕ → At → List ℕ → At → Type 0 where
  no_line : (bytes : ℕ) (now : At) → LinesTold host stretch bytes now [] now
  one_more : (bytes : ℕ) (now mid later : At) (piece rest : List ℕ) → 0 < length piece → LineTold host now piece mid → IsShown stretch bytes (length piece) mid → LinesTold host stretch (bytes + length piece) mid rest later
      → LinesTold host stretch bytes now (piece ++ rest) later

-- how a script is over
abbrev pub EndsAs : Bool → Script → RunStatus → Type 0
EndsAs refused at_end status = status ≡ status_of refused
EndsAs refused (spent lines bytes) status = status ≡ ScriptTooLong lines bytes
EndsAs refused (too_long more) status = ⊥
EndsAs refused (line text more) status = ⊥

-- where the giving failed a front of the reply was told
pub record CutShort (failed : Type 0) (text : List ℕ) (next : Kept) (told : List ℕ) (status : RunStatus) (last : Kept) : Type 0 where
  pub cause : failed
  pub count : ℕ
  pub front : told ≡ take count text
  pub ended : status ≡ WriteFault
  pub keeps : last ≡ next

-- how a run is over with the answer to a line
abbrev pub EndsWith : Type 0 → Answer → Kept → List ℕ → RunStatus → Kept → Type 0
EndsWith failed (Said this) next told status last = CutShort failed (outcome_text this) next told status last
EndsWith failed (Ends end) next told status last = Stops next (status_at end) told status last

-- behind an answer no call failed but the giving of its reply, where it has one
abbrev pub OnlyReplying : Answer → Counts → Counts → Type 0
OnlyReplying (Said this) later end = OnlyUngiven later end
OnlyReplying (Ends over) later end = end ≡ later

-- How a run is over, which has come so far, with so many bytes told, by these counts: the source failed; the script is at its end, or past its limit; or a line
-- was answered so that no line is run behind it, or its reply couldn't be told. What that line did the moments show, and its calls are counted as those of the lines
-- before; where there was none the story ends at the point behind the line before.
pub data Over (host : Host) (stretch : Stretch) (bytes : ℕ) (end : Counts) (now : At) (told : List ℕ) (status : RunStatus) (last : Kept) : Type 0 where
  unread : OnlyUnread now.counts end → EndsAt stretch now.story now.effort → Stops now.kept ReadFault told status last → Over host stretch bytes end now told status last
  ended : EndsAs now.refused now.script status → end ≡ now.counts → EndsAt stretch now.story now.effort → Stops now.kept status told status last → Over host stretch bytes end now told status last
  broken : (answer : Answer) (later : Counts) (next : Kept) (more : Script) → NextLine host now.counts now.kept now.script answer later next more → IsLastShown stretch bytes later.drives next.content → OnlyReplying answer later end
      → EndsBehind stretch host now later answer next → EndsWith (giving_failed later end) answer next told status last → Over host stretch bytes end now told status last

-- The run of a script, from there on: line after line, until it is over. A line is excused by the calls alone that failed until the first byte of its reply
-- was told, and behind the last of the reply before; one of whose reply nothing was told, by those until the run's end.
pub record Runs (host : Host) (stretch : Stretch) (end : Counts) (now : At) (told : List ℕ) (status : RunStatus) (last : Kept) : Type 0 where
  pub so_far : List ℕ
  pub rest : List ℕ
  pub parts : told ≡ so_far ++ rest
  pub at : At
  pub lines : LinesTold host stretch 0 now so_far at
  pub over : Over host stretch (length so_far) end at rest status last

-- what is there as a run begins
abbrev pub started : Image → Kept
started content = record { memory = unbooted 0; content = content }

-- where a run is behind its boot
abbrev pub behind_boot : Counts → Progress → Kept → Script → At
behind_boot booted by kept script = record { counts = booted; story = by.story; effort = by.effort; kept = kept; refused = false; script = script }

-- what follows on the boot at a run's start, to which nothing is replied: the lines from the point behind it on, or nothing
abbrev pub RunsFrom : Host → Stretch → Counts → Answer → Counts → Progress → Kept → Script → List ℕ → RunStatus → Kept → Type 0
RunsFrom host stretch end (Said outcome.Ok) later by kept script told status last = Runs host stretch end (behind_boot later by kept script) told status last
RunsFrom host stretch end (Said other) later by kept script told status last = ⊥
RunsFrom host stretch end (Ends over) later by kept script told status last = (end ≡ later) × EndsAt stretch by.story by.effort × Stops kept (status_at over) told status last

-- A whole run, from these counts to those: the boot answers from what the drive's blocks held, by as many calls as that takes, excused by the one that failed until the counts `booted`, and
-- the script is run from there. They are those of a point of the run, by which the drive's blocks read as the boot left them: the first of the points between two lines, each of which is
-- behind the one before. A boot that found no database, or ended the run without being lost, wrote no block. One that was answered led each history that the drives stood with
-- to one that is known with what is in memory.
pub record IsRun (host : Host) (stretch : Stretch) (start end : Counts) (content : Image) (script : Script) (told : List ℕ) (status : RunStatus) (last : Kept) : Type 0 where
  pub answer : Answer
  pub booted : Counts
  pub rose : RoseCalmly start booted
  pub kept : Kept
  pub boots : IsRebooted (drive_failures start booted) host (started content) answer kept
  pub by : Progress
  pub calls : BootCalls (drive_failures start booted) (made_between stretch.before.effort by.effort) host answer kept.memory content
  pub writes : FromTo (KeptOutside (site_area host.site)) stretch.old by.story
  pub unwritten : EndsUnwritten answer ⊎ ((answer ≡ accepted) × (kept.memory.opened ≡ None)) → FromTo (KeptOutside nowhere) stretch.old by.story
  pub point : IsPoint stretch start.source booted by kept.content
  pub leads : answer ≡ accepted → FromTo (λ t u. BootedTo host kept.memory t u × IsSince t u) stretch.old by.story
  pub runs : RunsFrom host stretch end answer booted by kept script told status last

-- Of the next line's reply nothing was told by that moment, or a front: of the reply to what it came to, where each drive had failed so often, and its blocks read as
-- the line left them; none was written, where the whole reply was told, and is a refusal for another cause than a failed call; and where the whole reply was told the line led to what it came to,
-- as once it is over: each history that was known before it is known with what is in memory behind it.
pub record NextFront (host : Host) (now : At) (told : List ℕ) (m : Moment) : Type 0 where
  pub answer : Answer
  pub later : Counts
  pub next : Kept
  pub more : Script
  pub comes : NextLine host now.counts now.kept now.script answer later next more
  pub by_then : (drive : ℕ) → later.drives drive ≡ m.faults (OnDrive drive)
  pub shows : IsSame next.content (contents m.tale)
  pub count : ℕ
  pub front : told ≡ take count (text_of answer)
  pub unwritten : told ≡ text_of answer → IsMereRefusal answer → (s : Story) → now.story ≡ Some s → KeptOutside nowhere (tale_of s) m.tale
  pub led : told ≡ text_of answer → IsSaid answer → (s : Story) → now.story ≡ Some s → RanTo host now.script now.kept.memory next.memory more (tale_of s) m.tale

abbrev pub IsNextFront : Host → At → List ℕ → Moment → Type 0
IsNextFront host now told m = (told ≡ []) ⊎ NextFront host now told m

-- the story goes on from one point to another
abbrev pub StoryGoesOn : Option Story → Option Story → Type 0
StoryGoesOn old new = (s : Story) → old ≡ Some s → (marks : List Mark) × (new ≡ Some (marked s marks))

-- Each block reads as it was kept. Where a database is open, and the run isn't over for want of places, numbers or memory, whatever a
-- crash leaves has its replica at each active place, with the newest table that is in memory.
pub record IsLeft (host : Host) (status : RunStatus) (u : Tale) (kept : Kept) : Type 0 where
  pub content : IsSame kept.content (contents u)
  pub opened : (IsLostStatus status → ⊥) → IfSome kept.memory.opened (λ o. IsOpenedAt host.drives o u)

-- The whole of a run that began at t: what it told and its status are what the script asks for, and every crash at
-- its end leaves the database that it made, or adopted and wrote anew.
pub record IsWholeRun (host : Host) (stretch : Stretch) (start end : Counts) (t : Tale) (script : Script) (tale : Option Tale) (status : RunStatus) : Type 0 where
  pub u : Tale
  pub tells : tale ≡ Some u
  pub more : List ℕ
  pub is_told : told u ≡ told t ++ more
  pub last : Kept
  pub left : IsLeft host status u last
  pub runs : IsRun host stretch start end (contents t) script more status last

-- A status has its cause: too few readable places by their numbers; a call that failed, on a drive of the database's site where too few places are left; two databases that are two. A faulty use is
-- no run's.
abbrev pub HasStatusCause : Host → Counts → Counts → RunStatus → Type 0
HasStatusCause host start end Done = Unit {0}
HasStatusCause host start end SomeRefused = Unit {0}
HasStatusCause host start end Usage = ⊥
HasStatusCause host start end (NoQuorum readable needed) = readable < needed
HasStatusCause host start end (Panic active listed) = site_failed host start end × (2 * active < listed)
HasStatusCause host start end ReadFault = source_failed start end
HasStatusCause host start end WriteFault = replies_failed start end
HasStatusCause host start end NoMemory = Unit {0}
HasStatusCause host start end (TwoDatabases a b) = a ≢ b
HasStatusCause host start end (ScriptTooLong lines bytes) = Unit {0}
HasStatusCause host start end NumbersSpent = Unit {0}

-- nothing failed
pub record IsUndisturbed (start end : Counts) : Type 0 where
  pub drive : drive_failed start end → ⊥
  pub source : source_failed start end → ⊥
  pub replies : replies_failed start end → ⊥

-- memory was never wanting, as far as the replies and the status tell
pub record IsSated (told : List ℕ) (status : RunStatus) : Type 0 where
  pub replies : Contains (replies_in told) (refusal_line OutOfMemory) → ⊥
  pub end : status ≢ NoMemory

-- the same in memory: of the drives that the last boot brought up, which they are
pub record IsSameMemory (a b : Memory) : Type 0 where
  pub opened : a.opened ≡ b.opened
  pub up : (drive : DriveNo) → has_drive a.up drive ≡ has_drive b.up drive
  pub unsteady : (drive : DriveNo) → has_drive a.unsteady drive ≡ has_drive b.unsteady drive
  pub clean : a.clean ≡ b.clean
  pub begun : a.begun ≡ b.begun
  pub entries : a.entries ≡ b.entries

-- two ends with the same in memory and in each block that no replica may have
abbrev pub IsSameEnd : Host → Kept → Kept → Type 0
IsSameEnd host a b = IsSameMemory a.memory b.memory × IsSameBeside (site_area host.site) b.content a.content

-- the host sees of a table of drives what is its own, which is sound
pub record IsOfTable (host : Host) : Type 0 where
  pub table : Geometry
  pub name : List ℕ
  pub key : key_of host ≡ Local name
  pub view : host.drives ≡ own_view table name
  pub site : host.site ≡ site_of host.drives (key_of host)
  pub sound : IsSound host.drives

-- no slice is listed twice
abbrev pub AreOnce : List SliceLine → Type 0
AreOnce lines = AllPairs (λ (a b : SliceLine). a ≡ b → ⊥) lines

-- no line of the script boots
abbrev pub NeverBoots : Script → Type 0
NeverBoots at_end = Unit {0}
NeverBoots (spent lines bytes) = Unit {0}
NeverBoots (too_long more) = NeverBoots more
NeverBoots (line text more) = (IsLine text Boot → ⊥) × NeverBoots more

-- the command isn't refused
abbrev pub IsGranted : Host → Memory → Command → Type 0
IsGranted host memory command = refusal_of (record { host = host; memory = memory }) command ≡ None

-- it changes the places of the database that is open
abbrev pub ChangesPlaces : Host → Memory → Command → Type 0
ChangesPlaces host memory (AddPlaces slices force count blocks) = IsGranted host memory (AddPlaces slices force count blocks) × (memory.opened ≡ None → ⊥)
ChangesPlaces host memory (DropPlaces slices force) = IsGranted host memory (DropPlaces slices force)
ChangesPlaces host memory other = ⊥

-- and the next line of a script
abbrev pub NextChanges : Host → Memory → Script → Type 0
NextChanges host memory (line text more) = (command : Command) × IsLine text (Exec command) × ChangesPlaces host memory (meant memory.entries command)
NextChanges host memory other = ⊥

-- No line of a run boots behind one that changes the places of an open database: one that is refused changes none.
abbrev pub BootsFirst : Host → Stretch → ℕ → At → Type 0
BootsFirst host stretch bytes now = (told : List ℕ) (at : At) → LinesTold host stretch bytes now told at → NextChanges host at.kept.memory at.script → NeverBoots at.script

-- Where nothing failed and memory was never wanting, and no line boots behind a change of places, the drives' blocks and the script settle what is told, the status, and, where the run isn't
-- over for want of places, numbers or memory, or for two databases, what is in memory at the end and in each block that no replica may have.
abbrev pub OneCourse : Type 0
OneCourse =
    (host : Host) (content : Image) → IsOfTable host → AreOnce host.drives.slices → (script : Script) (first second : Stretch) (start end from to : Counts) → IsUndisturbed start end → IsUndisturbed from to
    → (a b : List ℕ) (s r : RunStatus) (k j : Kept) → IsSated a s → IsSated b r → (one : IsRun host first start end content script a s k) → BootsFirst host first 0 (behind_boot one.booted one.by one.kept script)
    → IsRun host second from to content script b r j → (a ≡ b) × (s ≡ r) × ((IsLostStatus s → ⊥) → IsSameEnd host k j)
