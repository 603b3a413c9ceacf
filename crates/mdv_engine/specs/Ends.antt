-- What the calls of an engine say of their answers, and of the drives in the end.
use Rattle.std.specs.Prelude.{◌≡◌, ◌≢◌, ◌⊎◌, ◌≤◌, ◌+◌, ◌*◌, ℕ, Bool, not, true, false, List, [], Option, Some, None, Result, Ok, Err, IfOk, IfErr, OnOk, MatchOption, Contains, length}
use Rattle.mdv_acts.specs.Asked.{drives_asked}
use Rattle.mdv_shelf.specs.Drives.{KeptAmong}
use Rattle.mdv_shelf.specs.Shelves.{AtEachMoment, AtEachTale, AtEnd, DriveFailures, EndsTold, GivingFailed, GivingFailures, MadeCalls, RestsOnceTold}
use Rattle.mdv_shelf.specs.declared.shelf.Shelf.{Ghosts}
use Rattle.mdv_standing.specs.Creating.{first_mark}
use Rattle.mdv_store.specs.Booting.{boot_area, has_written}
use Rattle.mdv_store.specs.Create as create
use Rattle.mdv_store.specs.Seats.{AreTheirs}
use Rattle.mdv_words.specs.declared.command.Command.{Command}
use Rattle.mdv_words.specs.declared.command.Command.TheVariants as command
use Rattle.mdv_words.specs.Line as words
use Rattle.mdv_engine.specs.Below.{Answer, AreCalm, BootedTo, CameTo, CarryEnd, CarryMoment, Created, DriveNo, Ended, Executed, Host, IoFault, IsAllowed, IsOpenedAt, IsPlainAnswer, IsRebooted, IsSynced, Kept, KeptOutside, Knows, MayLeave, Memory, Opened, OutOfMemory, Outcomes, Read, Refusal, Seat, SliceLine, SliceName, Table, Tale, TellMoment, TellsFront, TurnMoment, Turned, VolId, Write, asked_by, has_drive, identity_of, kept_at, key_of, last, lines_asked, nowhere, text_of, unbooted, AddListed, AddPlaces, DropPlaces, listed_by, meant, AreOnDisk, AreSeen, HasBlocks, HasUnsettled, KeptOnDrives, Map, Rewriting, map_open, pieces_in, Alteration, blocks_of, write_calls_in}
use Rattle.mdv_shelf.specs.Made.{Made, and_more, made_of}
use Rattle.mdv_engine_law.specs.declared.answer.Answer.TheVariants.{Over}
use Rattle.mdv_engine_law.specs.declared.answer.Ended.TheVariants as ended
use Rattle.mdv_engine_law.specs.Line.{Ask, ToDrop, ToMake, ToMakeListed, contents, deeds}
use Rattle.mdv_engine_law.specs.Moves.{IsLostChange, drop_of}
use Rattle.mdv_dev.specs.Writing.{HaveFailed}
use Rattle.mdv_map.specs.Requests.{OnDrives}
use Rattle.mdv_places.specs.Asked.{Adds, Asks, seats_added}
use Rattle.mdv_places.specs.Changing.{drives_moved}
use Rattle.mdv_store.specs.Commit.{next_mark}
use Rattle.mdv_engine_law.specs.Answers.{IsMereRefusal, IsSaid, accepted, refusing}
use Rattle.mdv_engine_law.specs.Commands.{MaySpend, blame_of}
use Rattle.mdv_engine_law.specs.Efforts.{BootCalls, FaultCalls, LossCalls, MadeCallsOf, wanting_calls}
use Rattle.mdv_engine_law.specs.Refusals.{blocks_refusal, transfer_refusal}
use Rattle.mdv_engine_law.specs.declared.answer.Outcome.{Outcome}
use Rattle.mdv_engine_law.specs.declared.answer.Reply.{Reply}
use Rattle.mdv_engine_law.specs.declared.answer.Reply.TheVariants as reply
use Rattle.mdv_engine_law.specs.Replies.{HasAnswerCause, HasCommandCause, IsAccepted, IsLost, IsReplied, IsReplyTo}
use Rattle.mdv_engine_law.specs.Standing.{IsBare, LeavesDone, LeavesTorn}
use Rattle.mdv_engine.specs.declared.engine.Engine.{Engine}
use Rattle.mdv_engine.specs.Counts.{IsQuietRefusal, IsUnlooked, calls_of}
use Rattle.mdv_engine.specs.Counts as counts
use Rattle.mdv_engine.specs.Engine.{HasBootCause, IsLostOnSite, IsNextTable, IsWell, case_at, drives_open}

-- each moment of a creation of so many replicas of so many blocks on each of these slices
abbrev pub CreationMoments : {S : Type 0} → Ghosts S → S → S → Engine → List SliceName → ℕ → ℕ → Type 0
CreationMoments shelf from to old slices count blocks = AtEachTale shelf (CarryMoment old.host (ToMake (key_of old.host) (lines_asked old.host slices) count blocks) old.state) from to

-- each moment of a change of volumes
abbrev pub AlterMoments : {S : Type 0} → Ghosts S → S → S → Engine → Alteration → Type 0
AlterMoments shelf from to old alteration = AtEachTale shelf (CarryMoment old.host (asked_by old.host (command.Alter alteration)) old.state) from to

-- the database that a creation leaves open at these places
abbrev pub made_at : Host → ℕ → List SliceLine → ℕ → ℕ → List Seat → Opened
made_at host begun lines count blocks seats = record {
  key = key_of host;
  identity = identity_of host begun;
  mark = first_mark;
  table = create.table_of (create.seats_asked (key_of host) (identity_of host begun) lines count blocks);
  seats = seats;
}

-- Too few of the places took the table of a creation, as the calls say that failed; whatever a crash leaves, each of the places has its replica, and each that is left shows the table.
pub record LeavesReplicas (calls : Outcomes) (host : Host) (begun : ℕ) (lines : List SliceLine) (count blocks active listed : ℕ) (u : Tale) : Type 0 where
  pub lost : create.IsLost calls (key_of host) (identity_of host begun) lines count blocks active listed
  pub formed : AreTheirs host.drives (key_of host) (identity_of host begun) (create.seats_asked (key_of host) (identity_of host begun) lines count blocks) u
  pub left : IsOpenedAt host.drives (made_at host begun lines count blocks lost.now) u

-- Too few of a list's places took a table by a change of places, as the calls say that failed; whatever a crash leaves, each that did shows it, and each place that was added has a replica of the database.
pub record LeavesBoth (calls : Outcomes) (host : Host) (o : Opened) (asked : Asks) (active listed : ℕ) (u : Tale) : Type 0 where
  pub lost : IsLostChange calls host.drives o asked active listed
  pub left : IsOpenedAt host.drives (record lost.new { mark = next_mark lost.new.mark }) u
  pub formed : AreTheirs host.drives o.key o.identity (seats_added o asked) u

-- what a command leaves that the run is over with, for too few places are left
abbrev pub LeavesMade : Outcomes → Host → Memory → Command → ℕ → ℕ → Tale → Type 0
LeavesMade calls host old (AddPlaces slices force count blocks) active listed u =
    MatchOption old.opened (LeavesReplicas calls host old.begun (lines_asked host slices) count blocks active listed u) (λ o. LeavesBoth calls host o (Adds (lines_asked host slices) count blocks) active listed u)
LeavesMade calls host old (DropPlaces slices force) active listed u = (o : Opened) × (old.opened ≡ Some o) × LeavesBoth calls host o (drop_of o slices) active listed u
LeavesMade calls host old other active listed u = Unit {0}

-- a command that was carried out for a line that asks this: what it came to and led to, what it left where it was done, where the run is over, for too few places are left, and where a failed call ended it
pub record CarriedOut (calls : Outcomes) (host : Host) (asked : Ask) (command : Command) (old : Memory) (answer : Answer) (new : Memory) (t u : Tale) : Type 0 where
  pub carry : CarryEnd (λ kept a next. CameTo calls host kept command a next) host asked old answer new t u
  pub done : Knows host old t → IsAccepted answer → LeavesDone calls host old command u
  pub lost : Knows host old t → (active listed : ℕ) → answer ≡ Over (ended.Lost active listed) → LeavesMade calls host old command active listed u
  pub torn : Knows host old t → answer ≡ refusing IoFault → LeavesTorn calls host old command u

-- the end of a command
abbrev pub CommandEnd : Outcomes → Engine → Command → Answer → Engine → Tale → Tale → Type 0
CommandEnd calls old command answer new t u = CarriedOut calls old.host (asked_by old.host command) command old.state answer new.state t u

-- and of one that a line names, which means another one where it names an entry that is kept
abbrev pub NamedEnd : Outcomes → Engine → Command → Answer → Engine → Tale → Tale → Type 0
NamedEnd calls old command answer new t u = CarriedOut calls old.host (asked_by old.host command) (meant old.state.entries command) old.state answer new.state t u

-- the table that the alteration makes of the engine's
abbrev pub IsNext : Engine → Alteration → Table → Type 0
IsNext engine alteration next = IsNextTable engine.host engine.state alteration next

-- the end of a change of volumes
abbrev pub AlterEnds : {S : Type 0} → Ghosts S → S → S → Engine → Alteration → Answer → Engine → Type 0
AlterEnds shelf from to old alteration answer new = AtEnd shelf (CommandEnd (DriveFailures shelf from to) old (command.Alter alteration) answer new) from to

-- the end of a creation of so many replicas of so many blocks on each of these slices
abbrev pub CreationEnds : {S : Type 0} → Ghosts S → S → S → Engine → List SliceName → Bool → ℕ → ℕ → Answer → Engine → Type 0
CreationEnds shelf from to old slices force count blocks answer new = AtEnd shelf (CommandEnd (DriveFailures shelf from to) old (AddPlaces slices force count blocks) answer new) from to

-- it asks no more places than a database lists
abbrev pub IsFew : Command → Type 0
IsFew (AddPlaces slices force count blocks) = length slices * count ≤ 50
IsFew other = Unit {0}

-- What an answer says, whatever the shelf tells: its text is a reply's, it has its cause, and where places are lost that lies on the slices where the host's replicas may; a creation is
-- accepted only where memory was clean; the places asked are few, or it is refused before any call of theirs; and what the engine keeps, by which it may go on where the run does.
pub record HasAnswered (calls : Outcomes) (command : Command) (old : Engine) (answer : Answer) (new : Engine) : Type 0 where
  pub plain : IsPlainAnswer answer
  pub cause : HasAnswerCause (blame_of calls old.host old.state command) (MaySpend old.state command) answer
  pub lost : (active listed : ℕ) → answer ≡ Over (ended.Lost active listed) → IsLostOnSite calls old.host active listed
  pub free : IsAccepted answer → Contains (deeds (asked_by old.host command)) (Created (key_of old.host)) → old.state.opened ≡ None → IsBare old.state
  pub few : IsMereRefusal answer ⊎ IsFew command
  pub host : new.host ≡ old.host
  pub well : IsSaid answer → IsWell old.host new.state
  pub begun : new.state.begun ≤ old.state.begun + 1

-- the answer to a change of volumes
abbrev pub AlterAnswered : {S : Type 0} → Ghosts S → S → S → Engine → Alteration → Answer → Engine → Type 0
AlterAnswered shelf from to old alteration answer new = HasAnswered (DriveFailures shelf from to) (command.Alter alteration) old answer new

-- and its calls
abbrev pub IsAlterCounted : {S : Type 0} → Ghosts S → S → S → Engine → Alteration → Answer → Engine → Type 0
IsAlterCounted shelf from to old alteration answer new = counts.IsCommandCounted shelf from to old.host (command.Alter alteration) answer old.state.opened new.state.opened

-- Each moment of a line: how the drive stands, what was told of its reply by then, and that from the first byte of that on the drives are at rest.
pub record LineMoments {S : Type 0} (shelf : Ghosts S) (host : Host) (ask : Ask) (old : Memory) (Comes : Outcomes → Kept → Answer → Kept → Type 0) (from to : S) : Type 0 where
  pub each : AtEachTale shelf (TurnMoment host ask old) from to
  pub fronts : AtEachMoment shelf (λ t m. Knows host old t.tale → TellsFront Comes (Turned host ask old) old t m) from to
  pub rests : RestsOnceTold shelf from to

-- this answer, with no call on a drive that failed, and all else as it was
abbrev pub OnlyAnswers : Answer → Outcomes → Kept → Answer → Kept → Type 0
OnlyAnswers this calls kept answer next = AreCalm calls × (answer ≡ this) × (next ≡ kept)

-- each moment of a line that is refused so, whatever it asks: a front of the refusal is told
pub record RefusalMoments {S : Type 0} (shelf : Ghosts S) (host : Host) (old : Memory) (refusal : Refusal) (from to : S) : Type 0 where
  pub line : (ask : Ask) → LineMoments shelf host ask old (OnlyAnswers (refusing refusal)) from to
  pub tells : AtEachTale shelf (TellMoment (text_of (refusing refusal))) from to

-- what a command comes to, by what it means
abbrev pub CarriesOut : Host → Command → Outcomes → Kept → Answer → Kept → Type 0
CarriesOut host command calls kept answer next = CameTo calls host kept (meant kept.memory.entries command) answer next

-- The end of a command and its reply: what it came to and with how many calls, what it led to, what is known where the run isn't lost; a refusal behind which
-- nothing was written, nor by a change whose number is spent; and what a command left that was told `ok`, one with which the run is over, for too few places are left, and one that a failed call ended.
pub record TurnEnd (calls : Outcomes) (replies : Type 0) (made : Made) (old : Engine) (command : Command) (given : Reply) (new : Engine) (t u : Tale) : Type 0 where
  pub answered : Knows old.host old.state t → Executed calls replies made old.host (words.Exec command) old.state new.state given t u
  pub turned : IsReplied given → Turned old.host (asked_by old.host command) old.state new.state t u
  pub knows : (IsLost given → ⊥) → Knows old.host old.state t → Knows old.host new.state u
  pub quiet : IsQuietRefusal given → KeptOutside nowhere t u
  pub spent : given ≡ reply.Spent → KeptOutside nowhere t u
  pub done : Knows old.host old.state t → given ≡ reply.Ok → LeavesDone calls old.host old.state (meant old.state.entries command) u
  pub lost : Knows old.host old.state t → (active listed : ℕ) → given ≡ reply.Panic active listed → LeavesMade calls old.host old.state (meant old.state.entries command) active listed u
  pub torn : Knows old.host old.state t → given ≡ reply.Refused IoFault → LeavesTorn calls old.host old.state (meant old.state.entries command) u

abbrev pub TurnEnds : {S : Type 0} → Ghosts S → S → S → Engine → Command → Reply → Engine → Type 0
TurnEnds shelf from to old command given new = AtEnd shelf (TurnEnd (DriveFailures shelf from to) (GivingFailed shelf from to) (made_of shelf from to) old command given new) from to

-- a reply to a command has its cause, and what the engine keeps, by which it may go on where the run isn't over
pub record HasReplied (calls : Outcomes) (replies : Type 0) (old : Engine) (command : Command) (given : Reply) (new : Engine) : Type 0 where
  pub cause : HasCommandCause (blame_of calls old.host old.state command) (MaySpend old.state command) replies given
  pub lost : (active listed : ℕ) → given ≡ reply.Panic active listed → IsLostOnSite calls old.host active listed
  pub host : new.host ≡ old.host
  pub well : (IsLost given → ⊥) → IsWell old.host new.state
  pub begun : new.state.begun ≤ old.state.begun + 1

-- so has one that is only told, by which no call on a drive failed, and the engine is as it was
pub record HasOnlyReplied (calls : Outcomes) (replies : Type 0) (said : Outcome) (old : Engine) (given : Reply) (new : Engine) : Type 0 where
  pub cause : IsReplyTo replies said given
  pub calm : AreCalm calls
  pub same : new ≡ old

-- The calls of a command and of its reply, by what was open before and is then: as many as the command takes, and one; where it was done, just these, and just
-- its blocks; a creation and a change wrote their table at each place in turn, also where the run is over with them. Its places are few, or it made two calls at most, and wrote nothing. A refused command writes nothing, unless a call failed, and makes no call on a drive, unless memory was wanting behind it; where a call failed it made no more than it makes then. A count that is
-- spent takes no call. Where the reply was told whole, none failed behind its first byte; and unless it was cut short no giving failed.
pub record IsTurnCounted {S : Type 0} (shelf : Ghosts S) (old new : S) (host : Host) (command : Command) (r : Reply) (before now : Option Opened) : Type 0 where
  pub most : (made_of shelf old new).within 0 (1 + calls_of host before command) (counts.blocks_of host before command)
  pub few : (made_of shelf old new).within 0 2 0 ⊎ IsFew command
  pub done : r ≡ reply.Ok → MadeCallsOf (DriveFailures shelf old new) (and_more 1 (made_of shelf old new)) command host before now
  pub wrote : r ≡ reply.Ok → (through : S) × counts.HasWrittenAll shelf old through host command before now × MadeCalls shelf through new 1 0
  pub unlooked : IsUnlooked r → (made_of shelf old new).within 0 1 0
  pub unwritten : IsQuietRefusal r → (made_of shelf old new).within 0 (1 + calls_of host before command) 0
  pub wanting : r ≡ reply.Refused OutOfMemory → (made_of shelf old new).within 0 (1 + wanting_calls host before command) 0
  pub faulted : r ≡ reply.Refused IoFault → FaultCalls (and_more 1 (made_of shelf old new)) command host before
  pub halted : r ≡ reply.Refused IoFault → (through : S) × counts.HasHalted shelf old through host command before now × MadeCalls shelf through new 1 0
  pub lost : (active listed : ℕ) → r ≡ reply.Panic active listed → LossCalls (made_of shelf old new) command host before × counts.HasTriedAll shelf old new host command before active listed
  pub spent : r ≡ reply.Spent → (made_of shelf old new).within 0 0 0
  pub told : IsReplied r → EndsTold shelf old new
  pub given : r ≢ reply.Told → (GivingFailures shelf old new).none

-- The call of a reply alone, where the same holds.
pub record IsReplyCounted {S : Type 0} (shelf : Ghosts S) (old new : S) (r : Reply) : Type 0 where
  pub once : MadeCalls shelf old new 1 0
  pub told : IsReplied r → EndsTold shelf old new
  pub given : IsReplied r → (GivingFailures shelf old new).none

-- what a boot leaves in memory: how many creations were begun alone, where it isn't answered
abbrev pub kept_by : ℕ → Result Memory Ended → Memory
kept_by begun (Ok memory) = memory
kept_by begun (Err end) = unbooted begun

abbrev pub left_by : Result Engine Ended → Memory
left_by (Ok engine) = engine.state
left_by (Err end) = unbooted 0

-- The end of a boot: what it came to; where it was answered, what is known, and that of each drive of the site on which no call failed a crash leaves what
-- a read gives; so it does, on a drive that is up, of each block that the boot can't have written; one that adopts nothing, and isn't lost, leaves each block as it was; and how many
-- calls it made, by what the drives held.
pub record IsBootEnd (calls : Outcomes) (made : Made) (host : Host) (old : Memory) (answer : Answer) (new : Memory) (t u : Tale) : Type 0 where
  pub rebooted : IsRebooted calls host (kept_at old t) answer (kept_at new u)
  pub booted : answer ≡ accepted → BootedTo host new t u
  pub synced : answer ≡ accepted → (drive : DriveNo) → Contains host.site.drives drive → ((calls drive.0).some → ⊥) → IsSynced drive.0 u
  pub still : (drive : DriveNo) (block : ℕ) → has_drive rebooted.up drive ≡ true → boot_area host.site (has_written rebooted.end) drive.0 block ≡ false → (x : List ℕ) → MayLeave u drive.0 block x → x ≡ last u drive.0 block
  pub unwritten : has_written rebooted.end ≡ false → KeptOutside nowhere t u
  pub effort : BootCalls calls made host answer new (contents t)

abbrev pub BootEndsAs : {S : Type 0} → Ghosts S → S → S → Host → Memory → Answer → Memory → Type 0
BootEndsAs shelf from to host old answer new = AtEnd shelf (IsBootEnd (DriveFailures shelf from to) (made_of shelf from to) host old answer new) from to

-- why a boot isn't answered, and what it leaves that is
pub record HasBootedFrom (calls : Outcomes) (host : Host) (begun : ℕ) (result : Result Memory Ended) : Type 0 where
  pub cause : HasBootCause calls host (kept_by begun result) result
  pub well : IfOk result (λ memory. IsWell host memory × (memory.begun ≡ begun) × (memory.entries ≡ []))

pub record HasBooted (calls : Outcomes) (host : Host) (result : Result Engine Ended) : Type 0 where
  pub cause : HasBootCause calls host (left_by result) result
  pub engine : IfOk result (λ engine. (engine.host ≡ host) × IsWell host engine.state × (engine.state.begun ≡ 0) × (engine.state.entries ≡ []))

pub record HasRebooted (calls : Outcomes) (old : Engine) (result : Result (Unit {0}) Ended) (new : Engine) : Type 0 where
  pub cause : HasBootCause calls old.host new.state result
  pub closed : IfErr result (λ refusal. new.state.opened ≡ None)
  pub host : new.host ≡ old.host
  pub well : IsWell old.host new.state
  pub begun : new.state.begun ≡ old.state.begun
  pub fresh : new.state.entries ≡ []

-- what was read is what the drives have in these blocks of the volume, and no call failed
pub record AreRead {S : Type 0} (shelf : Ghosts S) (old new : S) (engine : Engine) (volume : VolId) (at count : ℕ) (IsTold : List (List ℕ) → Type 0) : Type 0 where
  pub map : Map
  pub there : HasBlocks engine.host engine.state volume at count map
  pub allowed : transfer_refusal engine.host engine.state.opened volume at count ≡ None
  pub blocks : List (List ℕ)
  pub as_told : IsTold blocks
  pub calm : AreCalm (DriveFailures shelf old new)
  pub as_there : (t : Tale) → shelf.tale old ≡ Some t → (length blocks ≡ count) × AreSeen map at blocks (last t)

-- the volume has these blocks, and at each moment each of them was old or new
pub record ArePutting {S : Type 0} (shelf : Ghosts S) (old new : S) (engine : Engine) (volume : VolId) (at : ℕ) (blocks : List (List ℕ)) : Type 0 where
  pub map : Map
  pub there : HasBlocks engine.host engine.state volume at (length blocks) map
  pub allowed : blocks_refusal engine.host engine.state.opened volume (at + length blocks) ≡ None
  pub moments : AtEachTale shelf (Rewriting map at blocks) old new

-- of the copies of these blocks on the other drives a crash leaves only what a read gives
abbrev pub OnSteady : (ℕ → Bool) → Map → ℕ → ℕ → Tale → Type 0
OnSteady failing v at count t = OnDrives v (λ drive. not (failing drive)) at count t

-- Calls failed on drives that they lie on, which are unsteady from then on; each other one has each block as a read gives it, whatever a crash leaves.
pub record AreTorn {S : Type 0} (shelf : Ghosts S) (old new : S) (engine : Engine) (volume : VolId) (at : ℕ) (blocks : List (List ℕ)) (after : Engine) : Type 0 where
  pub putting : ArePutting shelf old new engine volume at blocks
  pub failing : ℕ → Bool
  pub have : HaveFailed shelf old new putting.map at (length blocks) failing
  pub others : AtEnd shelf (λ _ u. OnSteady failing putting.map at (length blocks) u) old new
  pub host : after.host ≡ engine.host
  pub unsettled : HasUnsettled failing engine.state after.state

-- they are on the disk in the end, and no call failed
pub record ArePut {S : Type 0} (shelf : Ghosts S) (old new : S) (engine : Engine) (volume : VolId) (at : ℕ) (blocks : List (List ℕ)) (after : Engine) : Type 0 where
  pub putting : ArePutting shelf old new engine volume at blocks
  pub calm : AreCalm (DriveFailures shelf old new)
  pub settled : AtEnd shelf (λ _ u. AreOnDisk putting.map at blocks u) old new
  pub same : after ≡ engine

-- what a write did that was answered so, and what it left in memory
abbrev pub AreWritten : {S : Type 0} → Ghosts S → S → S → Engine → VolId → ℕ → List (List ℕ) → Result (Unit {0}) Refusal → Engine → Type 0
AreWritten shelf old new engine volume at blocks (Ok done) after = ArePut shelf old new engine volume at blocks after
AreWritten shelf old new engine volume at blocks (Err IoFault) after = AreTorn shelf old new engine volume at blocks after
AreWritten shelf old new engine volume at blocks (Err other) after = after ≡ engine

-- how many calls a read of blocks makes, one for each piece of them; and a write, which syncs each drive besides
abbrev pub read_calls : Engine → VolId → ℕ → ℕ → ℕ
read_calls engine volume at count = pieces_in engine.host engine.state.opened volume at count

abbrev pub write_calls : Engine → VolId → ℕ → ℕ → ℕ
write_calls engine volume at count = write_calls_in engine.host engine.state.opened volume at count

-- the calls of a read or a write of blocks: just so many where it was done, one at least and no more where a call failed, and none where it was refused for
-- another cause
pub record AreBlocksCounted {S : Type 0} (shelf : Ghosts S) (old new : S) (calls written : ℕ) (engine : Engine) (volume : VolId) (at count : ℕ) (result : Result (Unit {0}) Refusal) : Type 0 where
  pub done : OnOk result (MadeCalls shelf old new calls written)
  pub failed : result ≡ Err IoFault → (made_of shelf old new).within 1 calls written
  pub refused : IfErr result (λ refusal. blocks_refusal engine.host engine.state.opened volume (at + count) ≡ Some refusal → new ≡ old)

-- All calls that changed something or failed are on the drives of these blocks of a volume, and none changed something behind a failed one.
abbrev pub KeptOnBlocks : {S : Type 0} → Ghosts S → S → S → Host → Memory → VolId → ℕ → ℕ → Type 0
KeptOnBlocks shelf old new host memory volume at count = KeptOnDrives shelf old new (map_open host.drives memory.opened volume) at count

-- on those of the slices that a creation names, or of the places of a change
abbrev pub drives_more : Host → Option Opened → List SliceLine → ℕ → ℕ → List DriveNo
drives_more host None lines count blocks = drives_asked lines
drives_more host (Some o) lines count blocks = drives_moved host.drives o (Adds lines count blocks)

abbrev pub drives_less : Host → Option Opened → List SliceName → List DriveNo
drives_less host None slices = []
drives_less host (Some o) slices = drives_moved host.drives o (drop_of o slices)

-- so they are of a command, on those of the open database's active places, and of a transfer on those of its blocks
abbrev pub KeptAsAsked : {S : Type 0} → Ghosts S → S → S → Host → Memory → Command → Type 0
KeptAsAsked shelf old new host memory (AddPlaces slices force count blocks) = KeptAmong shelf old new (drives_more host memory.opened (lines_asked host slices) count blocks)
KeptAsAsked shelf old new host memory (AddListed number force) = KeptAmong shelf old new []
KeptAsAsked shelf old new host memory (DropPlaces slices force) = KeptAmong shelf old new (drives_less host memory.opened slices)
KeptAsAsked shelf old new host memory (command.Alter alteration) = KeptAmong shelf old new (drives_open memory.opened)
KeptAsAsked shelf old new host memory (Read volume at count) = KeptOnBlocks shelf old new host memory volume at count
KeptAsAsked shelf old new host memory (Write volume at what) = KeptOnBlocks shelf old new host memory volume at (length (blocks_of what))
KeptAsAsked shelf old new host memory (command.Print names) = KeptAmong shelf old new []

-- What is said of a command that was carried out for a line that asks this: of each moment and the end, of its answer, of its calls, and of the drives on which they were made.
pub record WasCarriedOut {S : Type 0} (shelf : Ghosts S) (from to : S) (ask : Ask) (command : Command) (old : Engine) (said : Answer) (new : Engine) : Type 0 where
  pub moments : AtEachTale shelf (CarryMoment old.host ask old.state) from to
  pub end : AtEnd shelf (CarriedOut (DriveFailures shelf from to) old.host ask command old.state said new.state) from to
  pub answer : HasAnswered (DriveFailures shelf from to) command old said new
  pub counted : counts.IsCommandCounted shelf from to old.host command said old.state.opened new.state.opened
  pub kept : KeptAsAsked shelf from to old.host old.state command

-- A line asks so many replicas of so many blocks on each of these slices: it says so itself, or it names an entry that is kept and says so.
pub data AsksPlaces (engine : Engine) (slices : List SliceName) (count blocks : ℕ) (ask : Ask) : Type 0 where
  by_slices : ask ≡ ToMake (key_of engine.host) (lines_asked engine.host slices) count blocks → AsksPlaces engine slices count blocks ask
  by_entry : (number : ℕ) → listed_by engine.state.entries number ≡ Some (record { slices = slices; count = count; blocks = blocks }) → ask ≡ ToMakeListed (key_of engine.host) number → AsksPlaces engine slices count blocks ask

-- so it is of such a line, where nothing refuses it, with whichever force
abbrev pub AddsPlaces : {S : Type 0} → Ghosts S → S → S → Engine → List SliceName → ℕ → ℕ → Answer → Engine → Type 0
AddsPlaces shelf from to old slices count blocks answer new =
    (force : Bool) (ask : Ask) → IsAllowed (case_at old) (AddPlaces slices force count blocks) → AsksPlaces old slices count blocks ask → WasCarriedOut shelf from to ask (AddPlaces slices force count blocks) old answer new

-- and of one by which the places on these slices go
abbrev pub LosesPlaces : {S : Type 0} → Ghosts S → S → S → Engine → List SliceName → Bool → Answer → Engine → Type 0
LosesPlaces shelf from to old slices force answer new = WasCarriedOut shelf from to (ToDrop (key_of old.host) slices force) (DropPlaces slices force) old answer new

abbrev pub FreelyLoses : {S : Type 0} → Ghosts S → S → S → Engine → List SliceName → Answer → Engine → Type 0
FreelyLoses shelf from to old slices answer new = (force : Bool) → IsAllowed (case_at old) (DropPlaces slices force) → LosesPlaces shelf from to old slices force answer new
