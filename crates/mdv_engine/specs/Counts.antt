-- How many calls on the drives a command and a boot make, by what they came to.
use Rattle.std.specs.Prelude.{◌≡◌, ◌≤◌, ◌+◌, ◌*◌, ℕ, min, Bool, true, false, List, length, if◌then◌else◌, Option, Some, None, Result, Ok, Err}
use Rattle.mdv_base.specs.DriveSet.{no_drives}
use Rattle.mdv_base.specs.declared.drive.Failed.{Failed}
use Rattle.mdv_base.specs.declared.refusal.Refusal.{Refusal}
use Rattle.mdv_base.specs.declared.refusal.Refusal.TheVariants.{IoFault, OutOfMemory}
use Rattle.mdv_base.specs.declared.name.VolId.{VolId}
use Rattle.mdv_shelf.specs.Made.{Made, made_of}
use Rattle.mdv_shelf.specs.Shelves.{DriveFailures, MadeCalls}
use Rattle.mdv_shelf.specs.Tale.{Tale, last}
use Rattle.mdv_shelf.specs.declared.shelf.Shelf.{Ghosts}
use Rattle.mdv_words.specs.Line as words
use Rattle.mdv_words.specs.declared.command.Command.{Command}
use Rattle.mdv_words.specs.declared.command.Command.TheVariants as command
use Rattle.mdv_store.specs.BootCounts.{IsAnewCounted, most_blocks, most_calls, most_reads}
use Rattle.mdv_store.specs.Booted.{IsBooted}
use Rattle.mdv_store.specs.declared.booting.Booted.{Booted}
use Rattle.mdv_acts.specs.Acts.{HaveGone, acts_asked}
use Rattle.mdv_store.specs.Commit.{next_mark}
use Rattle.mdv_acts.specs.Asked.{blanked_asked, drives_asked}
use Rattle.mdv_store.specs.Create.{seats_asked, table_of}
use Rattle.mdv_store.specs.Seats.{AreLeft}
use Rattle.mdv_store.specs.Writing.{AreWrittenBy}
use Rattle.mdv_standing.specs.Creating.{first_mark}
use Rattle.mdv_survey.specs.Counts.{AreLinesBy}
use Rattle.mdv_engine_law.specs.Line.{answered_by, opened_by}
use Rattle.mdv_engine_law.specs.Efforts.{FaultCalls, LossCalls, MadeCallsOf, deletion_blocks, deletion_calls, places_on, wanting_calls}
use Rattle.mdv_engine_law.specs.Places.{are_all}
use Rattle.mdv_engine_law.specs.Moves.{drop_of}
use Rattle.mdv_places.specs.Asked.{Adds, Drops, KeepsFirst}
use Rattle.mdv_places.specs.Changing.{WasLost, WereMoved}
use Rattle.mdv_places.specs.Counts.{move_blocks, move_calls}
use Rattle.mdv_places.specs.Ending.{HasEnded}
use Rattle.mdv_engine_law.specs.declared.answer.Answer.{Answer}
use Rattle.mdv_engine_law.specs.declared.answer.Answer.TheVariants.{Said, Over}
use Rattle.mdv_engine_law.specs.declared.answer.Ended.TheVariants as ended
use Rattle.mdv_engine_law.specs.declared.answer.Outcome.TheVariants as outcome
use Rattle.mdv_engine_law.specs.Altering.{table_by}
use Rattle.mdv_engine_law.specs.Answers.{accepted, refusing}
use Rattle.mdv_engine_law.specs.declared.answer.Reply.{Reply}
use Rattle.mdv_engine_law.specs.declared.answer.Reply.TheVariants as reply
use Rattle.mdv_engine.specs.Below.{AddListed, AddPlaces, DropPlaces, Geometry, Host, Identity, Key, Memory, Opened, Read, Seat, SliceLine, Write, active_of, key_of, lines_asked, pieces_in, write_calls_in}
use Rattle.mdv_store.specs.Shares.{short_of}
use Rattle.mdv_store.specs.declared.seats.Need.TheVariants.{Half}
use Rattle.mdv_plan.specs.declared.lists.Lists.{Lists}

-- the most calls that a command makes, and the most blocks that it writes
abbrev pub calls_of : Host → Option Opened → Command → ℕ
calls_of host (Some o) (AddPlaces slices force count blocks) = move_calls o (Adds (lines_asked host slices) count blocks)
calls_of host None (AddPlaces slices force count blocks) = 2 * blanked_asked (lines_asked host slices) count + 12 * places_on (lines_asked host slices) count
calls_of host opened (AddListed number force) = 0
calls_of host (Some o) (DropPlaces slices force) = if are_all o slices then deletion_calls o else move_calls o (Drops slices)
calls_of host None (DropPlaces slices force) = 0
calls_of host None (command.Alter alteration) = 0
calls_of host (Some o) (command.Alter alteration) = 6 * active_of o.seats
calls_of host opened (Read volume at count) = pieces_in host opened volume at (min count 1024)
calls_of host opened (Write volume at what) = write_calls_in host opened volume at (min (length (words.blocks_of what)) 1024)
calls_of host opened (command.Print names) = 0

abbrev pub blocks_of : Host → Option Opened → Command → ℕ
blocks_of host (Some o) (AddPlaces slices force count blocks) = move_blocks o (Adds (lines_asked host slices) count blocks)
blocks_of host None (AddPlaces slices force count blocks) = blanked_asked (lines_asked host slices) count + 4103 * places_on (lines_asked host slices) count
blocks_of host opened (AddListed number force) = 0
blocks_of host (Some o) (DropPlaces slices force) = if are_all o slices then deletion_blocks o else move_blocks o (Drops slices)
blocks_of host None (DropPlaces slices force) = 0
blocks_of host None (command.Alter alteration) = 0
blocks_of host (Some o) (command.Alter alteration) = 4096 * active_of o.seats
blocks_of host opened (Read volume at count) = 0
blocks_of host opened (Write volume at what) = length (words.blocks_of what)
blocks_of host opened (command.Print names) = 0

-- Places were formatted, and behind that their first table was written at each of them in turn.
pub record WereMadeInTurn {S : Type 0} (shelf : Ghosts S) (old new : S) (key : Key) (identity : Identity) (lines : List SliceLine) (count blocks : ℕ) (now : List Seat) : Type 0 where
  pub formed : S
  pub gone : HaveGone shelf old formed (drives_asked lines) (acts_asked key identity 1 lines count blocks)
  pub steps : AreWrittenBy shelf first_mark (table_of (seats_asked key identity lines count blocks)) formed new (seats_asked key identity lines count blocks) now

-- All places went: the first one alone was left, and each other one wiped; and behind that its master was blanked, or a call failed there.
pub record WasDeleted {S : Type 0} (shelf : Ghosts S) (old new : S) (g : Geometry) (o : Opened) (result : Result (Unit {0}) Failed) : Type 0 where
  pub through : S
  pub one : Opened
  pub moved : WereMoved shelf old through g o one KeepsFirst true
  pub ended : HasEnded shelf through new one result

-- A change that is done wrote its table at each place that was active, in turn: one is left only where its own writing was begun and a call on its drive failed, or behind an earlier one of this pass on its drive. So did a creation behind
-- its formats; and a change of places behind its formats twice, with both lists at the places of both, and with the new one alone at those of them that it has. Behind these it tried each wipe.
abbrev pub HasWrittenAll : {S : Type 0} → Ghosts S → S → S → Host → Command → Option Opened → Option Opened → Type 0
HasWrittenAll shelf old new host (AddPlaces slices force count blocks) None (Some now) = WereMadeInTurn shelf old new now.key now.identity (lines_asked host slices) count blocks now.seats
HasWrittenAll shelf old new host (command.Alter alteration) (Some before) (Some now) = AreWrittenBy shelf now.mark now.table old new before.seats now.seats
HasWrittenAll shelf old new host (AddPlaces slices force count blocks) (Some before) (Some now) = (clean : Bool) × WereMoved shelf old new host.drives before now (Adds (lines_asked host slices) count blocks) clean
HasWrittenAll shelf old new host (DropPlaces slices force) (Some before) (Some now) = (clean : Bool) × WereMoved shelf old new host.drives before now (Drops slices) clean
HasWrittenAll shelf old new host (DropPlaces slices force) (Some before) None = WasDeleted shelf old new host.drives before (Ok tt)
HasWrittenAll shelf old new host other before now = Unit {0}

-- A deletion that a failed call ended: a wipe failed, and the first place alone is left; or all others were wiped, and the blanking of its master failed.
abbrev pub HasHalted : {S : Type 0} → Ghosts S → S → S → Host → Command → Option Opened → Option Opened → Type 0
HasHalted shelf old new host (DropPlaces slices force) (Some before) (Some now) = WereMoved shelf old new host.drives before now KeepsFirst false
HasHalted shelf old new host (DropPlaces slices force) (Some before) None = (fault : Failed) × WasDeleted shelf old new host.drives before (Err fault)
HasHalted shelf old new host other before now = Unit {0}

-- By these steps some of the places are left, those on whose drives no call failed; and of a list of these, the first one of which fewer than half are left, so many have the table.
pub record WereTried {S : Type 0} (shelf : Ghosts S) (old new : S) (Steps : List Seat → Type 0) (seats : List Seat) (lists : Lists) (active listed : ℕ) : Type 0 where
  pub now : List Seat
  pub left : AreLeft (DriveFailures shelf old new) (λ r n. Unit {0}) seats now
  pub few : short_of Half now lists ≡ Some (record { active = active; listed = listed })
  pub steps : Steps now

-- so it is where too few places took the table of a command
abbrev pub HasTriedAll : {S : Type 0} → Ghosts S → S → S → Host → Command → Option Opened → ℕ → ℕ → Type 0
HasTriedAll shelf old new host (AddPlaces slices force count blocks) None active listed =
    (identity : Identity) × WereTried shelf old new (WereMadeInTurn shelf old new (key_of host) identity (lines_asked host slices) count blocks) (seats_asked (key_of host) identity (lines_asked host slices) count blocks)
    (table_of (seats_asked (key_of host) identity (lines_asked host slices) count blocks)).plan.lists active listed
HasTriedAll shelf old new host (command.Alter alteration) (Some o) active listed =
    WereTried shelf old new (AreWrittenBy shelf (next_mark o.mark) (table_by host.drives alteration o.table) old new o.seats) o.seats o.table.plan.lists active listed
HasTriedAll shelf old new host (AddPlaces slices force count blocks) (Some o) active listed = (now : Opened) × WasLost shelf old new host.drives o now (Adds (lines_asked host slices) count blocks) (record { active = active; listed = listed })
HasTriedAll shelf old new host (DropPlaces slices force) (Some o) active listed = (now : Opened) × WasLost shelf old new host.drives o now (drop_of o slices) (record { active = active; listed = listed })
HasTriedAll shelf old new host other before active listed = Unit {0}

-- The calls of a command that was done: exactly so many, and no more than it may make at all; a creation and a change wrote to each place so.
pub record DoneCalls {S : Type 0} (shelf : Ghosts S) (old new : S) (host : Host) (command : Command) (before now : Option Opened) : Type 0 where
  pub exactly : MadeCallsOf (DriveFailures shelf old new) (made_of shelf old new) command host before now
  pub most : (made_of shelf old new).within 0 (calls_of host before command) (blocks_of host before command)
  pub wrote : HasWrittenAll shelf old new host command before now

-- The calls of a command, by what it came to, and what was open before and is then: exactly so many, and so many blocks, where it was done, and no more where one failed, nor fewer than the places took that are left. Without memory
-- nothing is written. A command that is refused for another cause does nothing at all: it doesn't even read.
abbrev pub IsCommandCounted : {S : Type 0} → Ghosts S → S → S → Host → Command → Answer → Option Opened → Option Opened → Type 0
IsCommandCounted shelf old new host command (Said outcome.Ok) before now = DoneCalls shelf old new host command before now
IsCommandCounted shelf old new host command (Said (outcome.Values text)) before now = DoneCalls shelf old new host command before now
IsCommandCounted shelf old new host command (Said (outcome.Refused IoFault)) before now =
    FaultCalls (made_of shelf old new) command host before × (made_of shelf old new).within 0 (calls_of host before command) (blocks_of host before command) × HasHalted shelf old new host command before now
IsCommandCounted shelf old new host command (Said (outcome.Refused OutOfMemory)) before now = (made_of shelf old new).within 0 (wanting_calls host before command) 0 × (shelf.tale new ≡ shelf.tale old)
IsCommandCounted shelf old new host command (Said (outcome.Refused other)) before now = new ≡ old
IsCommandCounted shelf old new host command (Over (ended.Lost active listed)) before now = LossCalls (made_of shelf old new) command host before × HasTriedAll shelf old new host command before active listed
IsCommandCounted shelf old new host command (Over other) before now = new ≡ old

-- the same of a read, before its answer is made
abbrev pub HasReadCounts : {S T : Type 0} → Ghosts S → S → S → Host → VolId → ℕ → ℕ → Result T Refusal → Option Opened → Type 0
HasReadCounts shelf old new host volume at count (Ok text) opened = MadeCalls shelf old new (pieces_in host opened volume at count) 0 × (count ≤ 1024)
HasReadCounts shelf old new host volume at count (Err refusal) opened = IsCommandCounted shelf old new host (Read volume at count) (refusing refusal) opened opened

-- a refusal that no call on the drive came before
abbrev pub IsUnlooked : Reply → Type 0
IsUnlooked reply.Ok = ⊥
IsUnlooked (reply.Refused IoFault) = ⊥
IsUnlooked (reply.Refused OutOfMemory) = ⊥
IsUnlooked (reply.Refused other) = Unit {0}
IsUnlooked (reply.Panic active listed) = ⊥
IsUnlooked reply.Spent = ⊥
IsUnlooked reply.NoMemory = ⊥
IsUnlooked reply.Told = ⊥
IsUnlooked (reply.NoQuorum readable needed) = ⊥
IsUnlooked (reply.TwoDatabases a b) = ⊥

-- a refusal behind which nothing was written
abbrev pub IsQuietRefusal : Reply → Type 0
IsQuietRefusal reply.Ok = ⊥
IsQuietRefusal (reply.Refused IoFault) = ⊥
IsQuietRefusal (reply.Refused other) = Unit {0}
IsQuietRefusal (reply.Panic active listed) = ⊥
IsQuietRefusal reply.Spent = ⊥
IsQuietRefusal reply.NoMemory = ⊥
IsQuietRefusal reply.Told = ⊥
IsQuietRefusal (reply.NoQuorum readable needed) = ⊥
IsQuietRefusal (reply.TwoDatabases a b) = ⊥

-- Behind so many calls that wrote nothing: a boot that opened a database made eight more for each place that was found, and wrote a claim, two gates and the table's text to each; and, where its
-- table had two lists, six more for each active place; one that found none made none.
abbrev pub IsOpenedCounted : Made → ℕ → Option Opened → Type 0
IsOpenedCounted made before (Some o) = IsAnewCounted made.exactly before o
IsOpenedCounted made before None = made.within before before 0

-- A boot of the store came to this answer, and, where the tale is told, left this in memory. So whatever failed its end follows from its last look, by whose end no call on a drive that it tells of had failed, and nothing was
-- written; and what was done behind that look was written in turn to the places that it had in hand.
pub record WasBooted {S : Type 0} (shelf : Ghosts S) (old new : S) (host : Host) (answer : Answer) (memory : Memory) : Type 0 where
  pub booted : Booted
  pub is : IsBooted shelf old new host.drives host.site booted
  pub answer_is : answer ≡ answered_by booted.end
  pub tied : answer ≡ accepted → (t : Tale) → shelf.tale old ≡ Some t → (memory.opened ≡ opened_by booted.end) × (memory.up ≡ booted.up) × (memory.clean ≡ booted.clean)

-- The calls of a boot: no more than those of as many looks as there are drives, and one, and of a hundred places, and of fifty again; and where it is answered and none failed, as many as it read, and those by which it opened what it did; and it made them as one of the store does.
pub record IsBootedCounted {S : Type 0} (shelf : Ghosts S) (old new : S) (host : Host) (answer : Answer) (memory : Memory) : Type 0 where
  pub most : (made_of shelf old new).within 0 (2 * length host.site.drives + most_reads host.site + most_calls) most_blocks
  pub clean : answer ≡ accepted → memory.clean ≡ true → (t : Tale) → shelf.tale old ≡ Some t
      → (reads : ℕ) × AreLinesBy host.drives host.site memory.up no_drives (last t) host.site.lines reads × IsOpenedCounted (made_of shelf old new) (2 * length host.site.drives + reads) memory.opened
  pub booted : WasBooted shelf old new host answer memory
