-- What is kept from line to line, what a boot comes to, and what lines ask.
use Rattle.std.specs.Prelude.{◌||◌, ◌≡◌, ◌⊎◌, ◌+◌, ◌<◌, ◌≤◌, ℕ, Bool, true, false, if◌then◌else◌, List, [], ◌∷◌, length, Option, Some, None, Contains, slice_index_or}
use Rattle.std.specs.Bool.{MatchBool}
use Rattle.mdv_places.specs.Asked.{names_of}
use Rattle.mdv_shelf.specs.Failing.{Outcomes}
use Rattle.mdv_standing.specs.Laws.{ShowsNoTable}
use Rattle.mdv_store.specs.Boot.{IsEndBy, IsOnce, is_memory}
use Rattle.mdv_store.specs.Booting.{boot_area, has_written}
use Rattle.mdv_store.specs.Commit as commit
use Rattle.mdv_store.specs.Create as create
use Rattle.mdv_acts.specs.Asked.{drives_asked}
use Rattle.mdv_store.specs.Progress.{Claimed, Progress, Rewritten, Settled}
use Rattle.mdv_store.specs.Seats.{drives_of}
use Rattle.mdv_store.specs.declared.booting.BootEnd.TheVariants as end
use Rattle.mdv_store_law.specs.Changes.{FirstPlace}
use Rattle.mdv_store_law.specs.Changes as changes
use Rattle.mdv_survey.specs.Replica.{at_of}
use Rattle.mdv_survey.specs.Survey.{IsSurvey, IsSurveyOf}
use Rattle.mdv_survey.specs.declared.replica.Replica.{Replica}
use Rattle.mdv_survey.specs.declared.replica.Survey.{Survey}
use Rattle.mdv_config.specs.Lists.{settled}
use Rattle.mdv_words.specs.declared.command.Command.TheVariants as command
use Rattle.mdv_words.specs.Line as words
use Rattle.mdv_engine_law.specs.Below.{Area, BootEnd, Changed, Deleted, SliceName, Command, Created, Deed, DriveNo, Drives, Entry, Geometry, Head, Identity, Image, IsMapOf, IsNewestOf, IsOwn, Key, Line, OfPlan, Opened, Read, Refusal, Seat, SliceLine, Slot, Spells, Table, Tale, VolId, Write, Wrote, has_drive, last, no_drives, replicas_of, seats_area, site_of, AddListed, AddPlaces, DropPlaces, Among, HasDriveBlock, IsOff, Map, readings, PlanChange, blocks_of}
use Rattle.mdv_engine_law.specs.declared.answer.Answer.{Answer}
use Rattle.mdv_engine_law.specs.declared.answer.Answer.TheVariants.{Over}
use Rattle.mdv_engine_law.specs.declared.answer.Ended.TheVariants as ended
use Rattle.mdv_engine_law.specs.declared.host.Host.{Host}
use Rattle.mdv_engine_law.specs.Altering.{change_of}
use Rattle.mdv_engine_law.specs.Answers.{accepted, refusing}
use Rattle.mdv_engine_law.specs.Hosts.{identity_of, key_of, lines_asked, places_area}

-- what an engine keeps in memory: the open database, which drives the last boot brought up, on which drives a write of blocks failed since, whether no call failed in the boot, nor in the blanking of a last replica
-- since, how many creations the run has begun, and the entries of the last `tab` block that was kept since that boot
pub record Memory : Type 0 where
  pub opened : Option Opened
  pub up : Drives
  pub unsteady : Drives
  pub clean : Bool
  pub begun : ℕ
  pub entries : List Entry

-- whether a drive is one of these
abbrev pub is_in : Drives → ℕ → Bool
is_in drives drive = has_drive drives (record { 0 = drive })

-- what a read gives of the drives' blocks
abbrev pub contents : Tale → Image
contents t = last t

-- what is kept from line to line: in memory, and on the drives
pub record Kept : Type 0 where
  pub memory : Memory
  pub content : Image

abbrev pub kept_at : Memory → Tale → Kept
kept_at memory t = record { memory = memory; content = contents t }

-- before a boot there is nothing in memory but how many creations were begun
abbrev pub unbooted : ℕ → Memory
unbooted begun = record { opened = None; up = no_drives; unsteady = no_drives; clean = false; begun = begun; entries = [] }

-- each block is as it was
abbrev pub IsSame : Image → Image → Type 0
IsSame old new = (drive block : ℕ) → new drive block ≡ old drive block

-- each block outside the area is as it was
abbrev pub IsSameBeside : Area → Image → Image → Type 0
IsSameBeside area old new = (drive block : ℕ) → area drive block ≡ false → new drive block ≡ old drive block

-- all is as it was
pub record Stays (kept next : Kept) : Type 0 where
  pub memory : next.memory ≡ kept.memory
  pub content : IsSame kept.content next.content

-- each active place has its replica there
abbrev pub AreThere : Geometry → Key → Identity → List Seat → Image → Type 0
AreThere g key identity seats content = (r : Replica) → Contains (replicas_of seats) r → IsOwn (Spells g) (site_of g key) identity r.line r.number content r.first r.head

-- each active place of the database has its replica there, which shows the table as its newest one under the mark
pub record IsOpenOn (g : Geometry) (o : Opened) (content : Image) : Type 0 where
  pub each : AreThere g o.key o.identity o.seats content
  pub shown : (r : Replica) → Contains (replicas_of o.seats) r → (slot : Slot) × IsNewestOf (Spells g) (at_of r) (content r.line.at.drive.0) r.head slot o.mark o.table

-- no replica of the key shows a table
abbrev pub HasNoTableOn : Geometry → Key → Image → Type 0
HasNoTableOn g key content = (identity : Identity) → ShowsNoTable (Spells g) (site_of g key) identity content

-- no call failed on a drive beside these
abbrev pub AreCalmBeside : List DriveNo → Outcomes → Type 0
AreCalmBeside drives calls = (drive : DriveNo) → (Contains drives drive → ⊥) → (calls drive.0).none

-- each of the places asked has a replica of the new database, whether it took the table or not
abbrev pub AreFormedOn : Host → Identity → List SliceLine → ℕ → ℕ → Image → Type 0
AreFormedOn host identity lines count blocks content =
    (r : Replica) → Contains (replicas_of (create.seats_asked (key_of host) identity lines count blocks)) r → (head : Head) × IsOwn (Spells host.drives) (site_of host.drives (key_of host)) identity r.line r.number content r.first head

-- The database was made on these slices, with the identity of this creation: each of its places was formatted, at least half took the table, and those on whose drives no call failed have it; each
-- block outside the places is as it was.
pub record IsCreated (calls : Outcomes) (host : Host) (lines : List SliceLine) (count blocks : ℕ) (kept next : Kept) : Type 0 where
  pub opened : Opened
  pub made : create.IsMade calls (key_of host) (identity_of host kept.memory.begun) lines count blocks opened
  pub calm : AreCalmBeside (drives_asked lines) calls
  pub memory : next.memory ≡ record kept.memory { opened = Some opened; begun = kept.memory.begun + 1 }
  pub formed : AreFormedOn host (identity_of host kept.memory.begun) lines count blocks next.content
  pub content : IsOpenOn host.drives opened next.content
  pub beside : IsSameBeside (places_area lines count blocks) kept.content next.content

-- a call of its formats failed: no table was written, and each block outside the places is as it was
pub record IsUncreated (calls : Outcomes) (host : Host) (lines : List SliceLine) (count blocks : ℕ) (kept next : Kept) : Type 0 where
  pub failed : create.HasFailed calls (key_of host) (identity_of host kept.memory.begun) lines count blocks
  pub memory : next.memory ≡ record kept.memory { begun = kept.memory.begun + 1 }
  pub beside : IsSameBeside (places_area lines count blocks) kept.content next.content

-- Memory was wanting, before anything was done on the drive. A creation is counted as begun nevertheless.
pub record IsUnbegun (kept next : Kept) : Type 0 where
  pub memory : next.memory ≡ record kept.memory { begun = kept.memory.begun + 1 }
  pub content : IsSame kept.content next.content

-- how many bytes a record may have in the open database
abbrev pub record_room : Opened → ℕ
record_room o = commit.room_in o.table

-- The next table is committed: at least half of the places took it, memory has it under the next count, and so has each place on whose drive no call failed; each block outside the active places
-- is as it was.
pub record IsCommitted (calls : Outcomes) (host : Host) (old : Opened) (table : Table) (kept next : Kept) : Type 0 where
  pub opened : Opened
  pub committed : commit.IsCommitted calls old opened table
  pub calm : AreCalmBeside (drives_of old.seats) calls
  pub memory : next.memory ≡ record kept.memory { opened = Some opened }
  pub content : IsOpenOn host.drives opened next.content
  pub beside : IsSameBeside (seats_area old.seats) kept.content next.content

-- the open database has the volume, with this map, and of it so many blocks from that one on
pub record HasBlocks (host : Host) (memory : Memory) (volume : VolId) (at count : ℕ) (v : Map) : Type 0 where
  pub o : Opened
  pub opened : memory.opened ≡ Some o
  pub lies : IsMapOf host.drives o.table volume v
  pub within : at + count ≤ v.blocks

-- each of these values is what one of the block's copies holds
pub record AreSeen (v : Map) (at : ℕ) (blocks : List (List ℕ)) (content : Image) : Type 0 where
  pub each : (k : ℕ) → k < length blocks → Among (readings v content (at + k)) (slice_index_or blocks k [])

-- each copy of these blocks holds these values, and all others are as they were
pub record ArePut (v : Map) (at : ℕ) (blocks : List (List ℕ)) (old new : Image) : Type 0 where
  pub here : (k : ℕ) (x : List ℕ) → k < length blocks → Among (readings v new (at + k)) x → x ≡ slice_index_or blocks k []
  pub elsewhere : (drive b : ℕ) → IsOff v at (length blocks) drive b → new drive b ≡ old drive b

-- wherever one of these blocks lies, it is as it was, or as it was to be, and all others are as they were
pub record MayBePut (v : Map) (at : ℕ) (blocks : List (List ℕ)) (old new : Image) : Type 0 where
  pub here : (k drive b : ℕ) → k < length blocks → HasDriveBlock (v.places (at + k)) drive b → (new drive b ≡ old drive b) ⊎ (new drive b ≡ slice_index_or blocks k [])
  pub elsewhere : (drive b : ℕ) → IsOff v at (length blocks) drive b → new drive b ≡ old drive b

-- the drives that failed are unsteady, beside those that were
pub record HasUnsettled (failing : ℕ → Bool) (old new : Memory) : Type 0 where
  pub beside : new ≡ record old { unsteady = new.unsteady }
  pub each : (drive : ℕ) → is_in new.unsteady drive ≡ (failing drive || is_in old.unsteady drive)

-- what is in memory behind a boot that was answered
abbrev pub booted_with : Option Opened → Drives → Bool → ℕ → Memory
booted_with opened up clean begun = record { opened = opened; up = up; unsteady = no_drives; clean = clean; begun = begun; entries = [] }

-- what a boot's end opens
abbrev pub opened_by : BootEnd → Option Opened
opened_by (end.Adopted o) = Some o
opened_by end.Empty = None
opened_by (end.TwoDatabases a b) = None
opened_by (end.NoQuorum readable needed) = None
opened_by (end.Lost active listed) = None
opened_by end.Spent = None
opened_by end.Memory = None

-- what is answered by it: a boot that finds nothing is answered as one that adopts
abbrev pub answered_by : BootEnd → Answer
answered_by (end.Adopted o) = accepted
answered_by end.Empty = accepted
answered_by (end.TwoDatabases a b) = Over (ended.TwoDatabases a b)
answered_by (end.NoQuorum readable needed) = Over (ended.NoQuorum readable needed)
answered_by (end.Lost active listed) = Over (ended.Lost active listed)
answered_by end.Spent = Over ended.Spent
answered_by end.Memory = Over ended.Memory

-- what the blocks read as behind it: what was adopted is there
abbrev pub IsLeftBy : Geometry → BootEnd → Image → Type 0
IsLeftBy g (end.Adopted o) content = IsOpenOn g o content
IsLeftBy g other content = Unit {0}

-- what was written was written to the active ones of these places, which a boot has in hand: each block outside them is as it was
abbrev pub WritesTo : Image → Image → List Seat → Type 0
WritesTo old new seats = IsSameBeside (seats_area seats) old new

-- the database with the table under this mark of the number, at these places
abbrev pub open_under : Key → Identity → (number count : ℕ) → Table → List Seat → Opened
open_under key identity number count table seats = record { key = key; identity = identity; mark = record { boot = number; count = count }; table = table; seats = seats }

-- The places that a boot's writes left hold what was written: the claim; or the table, under the number's first mark; or that with its new list alone, under the second one, and those that this list lacks still the first one.
abbrev pub LeftHoldOn : Geometry → Key → Identity → ℕ → Table → Progress → Image → Type 0
LeftHoldOn g key identity number table (Claimed now) content = AreThere g key identity now content
LeftHoldOn g key identity number table (Rewritten now) content = IsOpenOn g (open_under key identity number 0 table now) content
LeftHoldOn g key identity number table (Settled last gone) content =
    IsOpenOn g (open_under key identity number 1 (settled table) last) content × IsOpenOn g (open_under key identity number 0 table gone) content

-- and so it was by a boot; and the places that are left hold it
pub record WritesBy (g : Geometry) (key : Key) (old new : Image) (identity : Identity) (number : ℕ) (seats : List Seat) (table : Table) (progress : Progress) : Type 0 where
  pub to : WritesTo old new seats
  pub hold : LeftHoldOn g key identity number table progress new

-- Which drives a boot brought up, and whether no call failed in it: of the host's drives all but some on which one failed, and no other; one on which it failed later is up. On each of them just one failed, or none, if memory wasn't wanting; and where none failed on any the boot is clean.
pub record IsUpBy (calls : Outcomes) (host : Host) (end : BootEnd) (up : Drives) (clean : Bool) : Type 0 where
  pub down : is_memory end ≡ false → (drive : DriveNo) → Contains host.site.drives drive → has_drive up drive ≡ false → (calls drive.0).some
  pub others : (drive : DriveNo) → (Contains host.site.drives drive → ⊥) → (has_drive up drive ≡ false) × (calls drive.0).none
  pub once : (is_memory end ≡ true) ⊎ ((drive : DriveNo) → Contains host.site.drives drive → IsOnce (calls drive.0))
  pub calm : MatchBool clean ((drive : DriveNo) → (calls drive.0).none) ((is_memory end ≡ true) ⊎ ((drive : DriveNo) × Contains host.site.drives drive × (calls drive.0).some))

-- The last look read what the blocks held of these drives, each of which was up; on each other one of the host's a call failed, and on none of these, where the boot wrote nothing then.
pub record IsReadOf (calls : Outcomes) (host : Host) (content : Image) (up : Drives) (end : BootEnd) (survey : Survey) : Type 0 where
  pub calm : Drives
  pub were_up : (drive : DriveNo) → has_drive calm drive ≡ true → has_drive up drive ≡ true
  pub failed : (drive : DriveNo) → Contains host.site.drives drive → has_drive calm drive ≡ false → (calls drive.0).some
  pub survey_is : IsSurvey host.site calm survey
  pub of : IsSurveyOf host.drives host.site calm content survey
  pub none : (drive : DriveNo) → has_drive calm drive ≡ true → has_drive survey.failed drive ≡ false
  pub answered : has_written end ≡ false → (drive : DriveNo) → has_drive calm drive ≡ true → (calls drive.0).none

-- What a boot comes to, by what the blocks held of the drives that answered every read: its end follows from that, or memory was wanting; nothing else is in memory than what it found, which drives are up, and
-- how many creations were begun before. Each block that it can't have written is as it was.
pub record IsRebooted (calls : Outcomes) (host : Host) (kept : Kept) (answer : Answer) (next : Kept) : Type 0 where
  pub end : BootEnd
  pub up : Drives
  pub clean : Bool
  pub up_by : IsUpBy calls host end up clean
  pub by : (is_memory end ≡ true) ⊎ ((survey : Survey) × IsReadOf calls host kept.content up end survey × IsEndBy calls (λ hand table progress. WritesBy host.drives host.site.key kept.content next.content hand.identity hand.number hand.seats table progress) host.site survey end)
  pub answer_is : answer ≡ answered_by end
  pub memory : answer ≡ accepted → next.memory ≡ booted_with (opened_by end) up clean kept.memory.begun
  pub content : IsLeftBy host.drives end next.content
  pub beside : IsSameBeside (boot_area host.site (has_written end)) kept.content next.content

-- the first of the causes for which it is refused
abbrev pub IsTurnedDown : Refusal → Kept → Answer → Kept → Type 0
IsTurnedDown refusal kept answer next = (answer ≡ refusing refusal) × Stays kept next

-- What a line asks: nothing; a boot, by which nothing is acknowledged; so many replicas of so many blocks on each of these slices, or as the kept entry of that number says: of a new database, or where one is
-- open as many more; that none is on these slices any more, all of them with force; another deed; or what so many blocks of a volume hold, from that one on.
pub data Ask : Type 0 where
  Nothing : Ask
  ToBoot : Ask
  ToMake : Key → List SliceLine → ℕ → ℕ → Ask
  ToMakeListed : Key → ℕ → Ask
  ToDrop : Key → List SliceName → Bool → Ask
  ToDo : Deed → Ask
  ToSee : Key → VolId → ℕ → ℕ → Ask

-- a change of the table
abbrev pub change_asked : Host → Option PlanChange → Ask
change_asked host None = Nothing
change_asked host (Some change) = ToDo (Changed (key_of host) (OfPlan change))

-- what a command asks of the host's own database
abbrev pub asked_by : Host → Command → Ask
asked_by host (AddPlaces slices force count blocks) = ToMake (key_of host) (lines_asked host slices) count blocks
asked_by host (AddListed number force) = ToMakeListed (key_of host) number
asked_by host (DropPlaces slices force) = ToDrop (key_of host) slices force
asked_by host (command.Alter alteration) = change_asked host (change_of alteration)
asked_by host (Read volume at count) = ToSee (key_of host) volume at count
asked_by host (Write volume at what) = ToDo (Wrote (key_of host) volume at (blocks_of what))
asked_by host (command.Print names) = Nothing

-- and what a line asks: a block of entries nothing
abbrev pub asked_by_line : Host → Line → Ask
asked_by_line host words.Boot = ToBoot
asked_by_line host (words.Tab lines) = Nothing
asked_by_line host (words.Exec command) = asked_by host command

-- The deeds that it may begin, in this order: replicas are those of a new database, or more of the open one; and where all places are to go, which only force allows, the first one alone is left before the database is deleted.
abbrev pub deeds : Ask → List Deed
deeds Nothing = []
deeds ToBoot = []
deeds (ToMake key lines count blocks) = Created key ∷ Changed key (changes.AddPlaces (names_of lines) count blocks) ∷ []
deeds (ToMakeListed key number) = Created key ∷ Changed key (changes.AddListed number) ∷ []
deeds (ToDrop key slices force) = Changed key (changes.DropPlaces slices) ∷ (if force then Changed key FirstPlace ∷ Deleted key ∷ [] else [])
deeds (ToDo deed) = deed ∷ []
deeds (ToSee key volume at count) = []

-- and those of which `ok` may acknowledge one: that the first place alone is left is told to nobody
abbrev pub tellable : Ask → List Deed
tellable (ToDrop key slices force) = Changed key (changes.DropPlaces slices) ∷ (if force then Deleted key ∷ [] else [])
tellable ask = deeds ask
