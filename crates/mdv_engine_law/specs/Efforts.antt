-- How many calls on the drives a line makes, and how many blocks it writes.
use Rattle.std.specs.Prelude.{◌≡◌, ◌⊎◌, ℕ, ◌+◌, ◌*◌, min, Bool, true, false, List, length, Contains, None, Option, Some}
use Rattle.std.specs.Bool.{MatchBool}
use Rattle.mdv_base.specs.DriveSet.{no_drives}
use Rattle.mdv_shelf.specs.Everywhere.{Image}
use Rattle.mdv_shelf.specs.Failing.{Outcomes}
use Rattle.mdv_shelf.specs.Made.{Made, and_more}
use Rattle.mdv_look.specs.Looking.{reads_by}
use Rattle.mdv_store.specs.Boot.{IsEndBy, is_memory}
use Rattle.mdv_store.specs.BootCounts.{IsAnewCounted, blocks_at, blocks_by, calls_at, calls_by, most_blocks, most_calls, most_reads}
use Rattle.mdv_store.specs.Booting.{has_written}
use Rattle.mdv_store.specs.Counts.{drives_lost}
use Rattle.mdv_acts.specs.Acts.{calls_of}
use Rattle.mdv_acts.specs.Acts as acts
use Rattle.mdv_acts.specs.Asked.{blanked_asked}
use Rattle.mdv_places.specs.Asked.{Adds, Asks, Drops, KeepsFirst, acts_moved}
use Rattle.mdv_places.specs.Changing.{drives_moved}
use Rattle.mdv_places.specs.Counts.{move_blocks, move_calls}
use Rattle.mdv_store.specs.Create.{seats_asked}
use Rattle.mdv_store.specs.Progress.{Progress}
use Rattle.mdv_store.specs.Text.{blocks_for}
use Rattle.mdv_store.specs.declared.booting.BootEnd.TheVariants as end
use Rattle.mdv_survey.specs.Counts.{AreLinesBy}
use Rattle.mdv_survey.specs.declared.replica.Survey.{Survey}
use Rattle.mdv_words.specs.declared.command.Command.TheVariants.{Alter, Print}
use Rattle.mdv_words.specs.Line as words
use Rattle.mdv_engine_law.specs.Below.{BootEnd, Command, AddListed, AddPlaces, DropPlaces, DriveNo, Drives, Geometry, IoFault, Line, Opened, OutOfMemory, Read, Map, Seat, SliceLine, Table, VolId, Write, active_of, blocks_of, drives, map_of, meant, no_map, pieces, record_bytes}
use Rattle.mdv_engine_law.specs.declared.answer.Answer.{Answer}
use Rattle.mdv_engine_law.specs.declared.answer.Answer.TheVariants.{Said, Over}
use Rattle.mdv_engine_law.specs.declared.answer.Ended.TheVariants as ended
use Rattle.mdv_engine_law.specs.declared.answer.Outcome.TheVariants as outcome
use Rattle.mdv_engine_law.specs.declared.host.Host.{Host}
use Rattle.mdv_engine_law.specs.Hosts.{lines_asked}
use Rattle.mdv_engine_law.specs.Answers.{accepted}
use Rattle.mdv_engine_law.specs.Line.{IsReadOf, IsUpBy, Kept, Memory, answered_by, opened_by}
use Rattle.mdv_engine_law.specs.Moves.{drop_of}
use Rattle.mdv_engine_law.specs.Places.{are_all}

-- it makes none, and writes nothing
abbrev pub NoCalls : Made → Type 0
NoCalls made = made.within 0 0 0

-- a table is written to each active place by three writes and three syncs: two gates and its text; some places may be lost meanwhile, on each of whose drives a call was made
pub record PassCalls (made : Made) (text : ℕ) (before now : List Seat) : Type 0 where
  pub all : active_of now ≡ active_of before → made.exactly (6 * active_of before) ((2 + text) * active_of before)
  pub some : made.within (6 * active_of now + drives_lost before now) (6 * active_of before) ((2 + text) * active_of before)
  pub wrote : made.wrote

-- how many places these are
abbrev pub places_on : List SliceLine → ℕ → ℕ
places_on lines count = length lines * count

-- Each place is formatted by six calls, and gets its table by six; masters are blanked by two each where a slice gets several. Some places may be lost behind the formats, on each of whose drives a call was made.
pub record CreationCalls (made : Made) (lines : List SliceLine) (count blocks : ℕ) (o : Opened) : Type 0 where
  pub all : active_of o.seats ≡ places_on lines count → made.exactly (2 * blanked_asked lines count + 12 * places_on lines count) (blanked_asked lines count + (7 + blocks_for (record_bytes o.table)) * places_on lines count)
  pub some : made.within (2 * blanked_asked lines count + 6 * places_on lines count + (6 * active_of o.seats + drives_lost (seats_asked o.key o.identity lines count blocks) o.seats))
      (2 * blanked_asked lines count + 12 * places_on lines count) (blanked_asked lines count + 4103 * places_on lines count)

-- no call failed on these drives
abbrev pub HaveNoFailure : List DriveNo → Outcomes → Type 0
HaveNoFailure drives calls = (drive : DriveNo) → Contains drives drive → (calls drive.0).some → ⊥

-- A change of places formats those that come, blanks masters before as a creation does, writes two tables to the active places, and wipes those that go: just so many calls where none failed, and no more where one did.
pub record MoveCalls (calls : Outcomes) (made : Made) (g : Geometry) (o : Opened) (asked : Asks) : Type 0 where
  pub all : HaveNoFailure (drives_moved g o asked) calls → made.exactly (move_calls o asked) (move_blocks o asked)
  pub some : made.within (calls_of (acts_moved o asked)) (move_calls o asked) (move_blocks o asked)

-- a deletion of all places is a change to the first one alone, and two calls more, with the block of its master
abbrev pub deletion_calls : Opened → ℕ
deletion_calls o = move_calls o KeepsFirst + 2

abbrev pub deletion_blocks : Opened → ℕ
deletion_blocks o = move_blocks o KeepsFirst + 1

-- just so many where no call failed on the drives of the change; and twelve at least by which the first place took both tables, and those of its blanking
pub record DeletionCalls (calls : Outcomes) (made : Made) (g : Geometry) (o : Opened) : Type 0 where
  pub all : HaveNoFailure (drives_moved g o KeepsFirst) calls → made.exactly (deletion_calls o) (deletion_blocks o)
  pub some : made.within 14 (deletion_calls o) (deletion_blocks o)

abbrev pub map_or_none : Option Map → Map
map_or_none None = no_map
map_or_none (Some v) = v

-- the map of a volume of the open database, and none where there is no such one
abbrev pub map_open : Geometry → Option Opened → VolId → Map
map_open g None volume = no_map
map_open g (Some o) volume = map_or_none (map_of g o.table volume)

-- in how many pieces blocks of a volume lie, and on how many drives
abbrev pub pieces_in : Host → Option Opened → VolId → ℕ → ℕ → ℕ
pieces_in host opened volume at count = pieces (map_open host.drives opened volume) at count

abbrev pub drives_in : Host → Option Opened → VolId → ℕ → ℕ → ℕ
drives_in host opened volume at count = drives (map_open host.drives opened volume) at count

-- a write makes one call for each piece, and one for each drive
abbrev pub write_calls_in : Host → Option Opened → VolId → ℕ → ℕ → ℕ
write_calls_in host opened volume at count = pieces_in host opened volume at count + drives_in host opened volume at count

-- the calls of a creation that is done, and of a change, by what was open before and is then
abbrev pub MadeCallsOf : Outcomes → Made → Command → Host → Option Opened → Option Opened → Type 0
MadeCallsOf calls made (AddPlaces slices force count blocks) host None (Some o) = CreationCalls made (lines_asked host slices) count blocks o
MadeCallsOf calls made (AddPlaces slices force count blocks) host (Some old) new = MoveCalls calls made host.drives old (Adds (lines_asked host slices) count blocks)
MadeCallsOf calls made (DropPlaces slices force) host (Some old) new = MatchBool (are_all old slices) (DeletionCalls calls made host.drives old) (MoveCalls calls made host.drives old (Drops slices))
MadeCallsOf calls made (Alter alteration) host (Some old) (Some o) = PassCalls made (blocks_for (record_bytes o.table)) old.seats o.seats
MadeCallsOf calls made (Read volume at count) host old new = made.exactly (pieces_in host old volume at count) 0
MadeCallsOf calls made (Write volume at what) host old new = made.exactly (write_calls_in host old volume at (length (blocks_of what))) (length (blocks_of what))
MadeCallsOf calls made (Print names) host old new = NoCalls made
MadeCallsOf calls made other host old new = ⊥

-- the calls of a command in which memory was wanting: a read has its blocks before the text of them is made, all else none
abbrev pub wanting_calls : Host → Option Opened → Command → ℕ
wanting_calls host old (AddPlaces slices force count blocks) = 0
wanting_calls host old (AddListed number force) = 0
wanting_calls host old (DropPlaces slices force) = 0
wanting_calls host old (Alter alteration) = 0
wanting_calls host old (Read volume at count) = pieces_in host old volume at (min count 1024)
wanting_calls host old (Write volume at what) = 0
wanting_calls host old (Print names) = 0

-- how many calls the formats of a creation make, and how many blocks they write
abbrev pub format_calls : List SliceLine → ℕ → ℕ
format_calls lines count = 2 * blanked_asked lines count + 6 * places_on lines count

abbrev pub format_blocks : List SliceLine → ℕ → ℕ
format_blocks lines count = blanked_asked lines count + 5 * places_on lines count

-- Where a call failed and it is told: a creation has failed in its formats, as have places that are added, and a deletion of all places behind both tables; another change ends the run instead.
abbrev pub FaultCalls : Made → Command → Host → Option Opened → Type 0
FaultCalls made (AddPlaces slices force count blocks) host None = made.within 1 (format_calls (lines_asked host slices) count) (format_blocks (lines_asked host slices) count)
FaultCalls made (AddPlaces slices force count blocks) host (Some o) =
    made.within 1 (calls_of (acts_moved o (Adds (lines_asked host slices) count blocks))) (acts.blocks_of (acts_moved o (Adds (lines_asked host slices) count blocks)))
FaultCalls made (AddListed number force) host old = ⊥
FaultCalls made (DropPlaces slices force) host None = ⊥
FaultCalls made (DropPlaces slices force) host (Some o) = MatchBool (are_all o slices) (made.within 12 (deletion_calls o) (deletion_blocks o)) ⊥
FaultCalls made (Alter alteration) host old = ⊥
FaultCalls made (Read volume at count) host old = made.within 1 (pieces_in host old volume at count) 0
FaultCalls made (Write volume at what) host old = made.within 1 (write_calls_in host old volume at (length (blocks_of what))) (length (blocks_of what))
FaultCalls made (Print names) host old = ⊥

-- Where too few places took a table: a creation's formats were made, and a change made a call.
abbrev pub LossCalls : Made → Command → Host → Option Opened → Type 0
LossCalls made (AddPlaces slices force count blocks) host None =
    made.within (format_calls (lines_asked host slices) count + 1) (2 * blanked_asked (lines_asked host slices) count + 12 * places_on (lines_asked host slices) count) (blanked_asked (lines_asked host slices) count + 4103 * places_on (lines_asked host slices) count)
LossCalls made (AddPlaces slices force count blocks) host (Some o) = made.within 0 (move_calls o (Adds (lines_asked host slices) count blocks)) (move_blocks o (Adds (lines_asked host slices) count blocks))
LossCalls made (DropPlaces slices force) host (Some o) = made.within 0 (move_calls o (drop_of o slices)) (move_blocks o (drop_of o slices))
LossCalls made (Alter alteration) host (Some o) = made.within 1 (6 * active_of o.seats) (4096 * active_of o.seats)
LossCalls made other host old = ⊥

-- The calls of a command by its answer, and what was open before and is then. One that is refused for another cause than a failed call or want of memory makes none, nor does one with which a number would reach its limit.
abbrev pub CommandCalls : Outcomes → Made → Host → Command → Answer → Option Opened → Option Opened → Type 0
CommandCalls calls made host command (Said outcome.Ok) old new = MadeCallsOf calls made command host old new
CommandCalls calls made host command (Said (outcome.Values text)) old new = MadeCallsOf calls made command host old new
CommandCalls calls made host command (Said (outcome.Refused IoFault)) old new = FaultCalls made command host old
CommandCalls calls made host command (Said (outcome.Refused OutOfMemory)) old new = made.within 0 (wanting_calls host old command) 0
CommandCalls calls made host command (Said (outcome.Refused other)) old new = NoCalls made
CommandCalls calls made host command (Over (ended.Lost active listed)) old new = LossCalls made command host old
CommandCalls calls made host command (Over other) old new = NoCalls made

-- of a boot on which no call failed, behind so many that read
abbrev pub EndCalls : Made → ℕ → BootEnd → Type 0
EndCalls made reads (end.Adopted o) = IsAnewCounted made.exactly reads o
EndCalls made reads end.Empty = made.within reads reads 0
EndCalls made reads (end.TwoDatabases a b) = made.within reads reads 0
EndCalls made reads (end.NoQuorum readable needed) = made.within reads reads 0
EndCalls made reads (end.Lost active listed) = Unit {0}
EndCalls made reads end.Spent = made.within reads reads 0
EndCalls made reads end.Memory = Unit {0}

-- how many calls its looks make at most, where these drives were up, and these of them answered every read
abbrev pub looks_of : Host → (up calm : Drives) → ℕ
looks_of host up calm = 2 * length host.site.drives + reads_by host.site up calm

-- Behind the calls of its looks at most two calls are made for a claim and six for the table at each of these places that was found, with a claim, two gates and the table's text; and where it has two lists six again at each of the new one; one at least.
-- Where none failed they were just so many, and those of the looks as many as they read.
pub record HandCalls (made : Made) (host : Host) (content : Image) (up calm : Drives) (clean : Bool) (seats : List Seat) (table : Table) (progress : Progress) : Type 0 where
  pub within : made.within 1 (looks_of host up calm + calls_at seats table) (blocks_at seats table)
  pub exactly : clean ≡ true → (reads : ℕ) × AreLinesBy host.drives host.site up no_drives content host.site.lines reads × made.exactly (2 * length host.site.drives + reads + calls_by seats progress) (blocks_by seats table progress)

-- Its end is by what its looks read; it made no more calls than these, and those by which it wrote to the places that it has in hand.
pub record EndsByCalls (calls : Outcomes) (made : Made) (host : Host) (content : Image) (up : Drives) (clean : Bool) (end : BootEnd) : Type 0 where
  pub survey : Survey
  pub read : IsReadOf calls host content up end survey
  pub by_hand : IsEndBy calls (λ hand table progress. HandCalls made host content up read.calm clean hand.seats table progress) host.site survey end
  pub still : has_written end ≡ false → made.within 0 (looks_of host up read.calm) 0

-- A boot reads a block of each of the host's drives and syncs it, and each head and each body of an open slot once, where no call failed; and then writes to each active place. Whatever failed, its looks make no more calls than so many looks could take as there are drives of which a read failed, and one; where it
-- adopts or is lost it began to write, by no more calls, and no more blocks, than the places take that it found of the newest table's lists; and else it writes nothing.
pub record BootCalls (calls : Outcomes) (made : Made) (host : Host) (answer : Answer) (memory : Memory) (content : Image) : Type 0 where
  pub most : made.within 0 (2 * length host.site.drives + most_reads host.site + most_calls) most_blocks
  pub end : BootEnd
  pub answer_is : answer ≡ answered_by end
  pub up : Drives
  pub clean : Bool
  pub by : IsUpBy calls host end up clean
  pub tied : answer ≡ accepted → (memory.opened ≡ opened_by end) × (memory.up ≡ up) × (memory.clean ≡ clean)
  pub by_hand : (is_memory end ≡ true) ⊎ EndsByCalls calls made host content up clean end
  pub still : has_written end ≡ false → made.within 0 (2 * length host.site.drives + most_reads host.site) 0
  pub wrote : has_written end ≡ true → made.wrote
  pub exactly : clean ≡ true → (reads : ℕ) × AreLinesBy host.drives host.site up no_drives content host.site.lines reads × EndCalls made (2 * length host.site.drives + reads) end

-- and of a line, or a block of entries, which makes none
abbrev pub LineCalls : Outcomes → Made → Host → Kept → Line → Answer → Kept → Type 0
LineCalls calls made host kept words.Boot answer next = BootCalls calls made host answer next.memory kept.content
LineCalls calls made host kept (words.Tab lines) answer next = NoCalls made
LineCalls calls made host kept (words.Exec command) answer next = CommandCalls calls made host (meant kept.memory.entries command) answer kept.memory.opened next.memory.opened

-- with the one call of its reply, where it has one
abbrev pub replied_to : Answer → Made → Made
replied_to (Said this) made = and_more 1 made
replied_to (Over end) made = made
