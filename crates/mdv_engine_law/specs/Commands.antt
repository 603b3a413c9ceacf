-- What a command comes to, and a line.
use Rattle.std.specs.Prelude.{◌≡◌, ◌+◌, ◌≤◌, ◌^◌, ℕ, Bool, true, false, List, length, MatchOption, Option, Some, None}
use Rattle.std.specs.Bool.{MatchBool}
use Rattle.mdv_engine_law.specs.Below.{Map, VolId, lies_on, Refusal, BadLine, IoFault, OutOfMemory, TooMany, entries_reply, values_reply, Entry, IsTab, listing_of, printed_reply, blocks_of, Command, AddListed, AddPlaces, DropPlaces, Opened, Read, SliceLine, SliceName, Table, Write, Line, meant}
use Rattle.mdv_standing.specs.Creating.{first_mark}
use Rattle.mdv_store.specs.Commit as commit
use Rattle.mdv_store.specs.Create as create
use Rattle.mdv_acts.specs.Asked.{drives_asked}
use Rattle.mdv_places.specs.Asked.{Adds, Drops, KeepsFirst}
use Rattle.mdv_places.specs.Changing.{HasFailedOn, drives_moved, drives_under}
use Rattle.mdv_places.specs.Outcomes.{IsUnmoved}
use Rattle.mdv_store.specs.Opened.{shortage}
use Rattle.mdv_store.specs.Seats.{drives_of}
use Rattle.mdv_tab.specs.Text.{IsFaultOf}
use Rattle.mdv_tab.specs.declared.read.TabFault.TheVariants as fault
use Rattle.mdv_words.specs.declared.command.Command.TheVariants as command
use Rattle.mdv_words.specs.Line as words
use Rattle.mdv_words.specs.declared.written.Written.{Written}
use Rattle.mdv_words.specs.declared.written.Written.TheVariants.{Filled, One}
use Rattle.mdv_engine_law.specs.declared.answer.Answer.{Answer}
use Rattle.mdv_engine_law.specs.declared.answer.Answer.TheVariants.{Over}
use Rattle.mdv_engine_law.specs.declared.answer.Ended.{Ended}
use Rattle.mdv_engine_law.specs.declared.answer.Ended.TheVariants as ended
use Rattle.mdv_engine_law.specs.declared.host.Host.{Host}
use Rattle.mdv_engine_law.specs.Altering.{table_by}
use Rattle.mdv_engine_law.specs.Answers.{accepted, refusing, telling}
use Rattle.mdv_shelf.specs.Failing.{AreCalm, FailedOn, Outcomes}
use Rattle.mdv_engine_law.specs.Hosts.{identity_of, key_of, lines_asked, opened_area, places_area}
use Rattle.mdv_engine_law.specs.Line.{AreCalmBeside, AreFormedOn, Kept, Memory, IsSameBeside, Stays, IsCreated, IsUncreated, IsUnbegun, IsCommitted, IsOpenOn, IsSame, HasBlocks, HasUnsettled, AreSeen, ArePut, MayBePut, IsRebooted, IsTurnedDown}
use Rattle.mdv_engine_law.specs.Moves.{HasMovedOn, IsDeletedOn, IsLostChange, IsSpentChange, IsUndeletedOn, IsUnmovedOn, LeavesLists, drop_of}
use Rattle.mdv_engine_law.specs.Places.{are_all, list_of}
use Rattle.mdv_engine_law.specs.Replies.{Blame}
use Rattle.mdv_engine_law.specs.Refusals.{Case, refusal_of}

-- by what a command is judged that is carried out where this is kept
abbrev pub case_of : Host → Kept → Case
case_of host kept = record { host = host; memory = kept.memory }

-- nothing refuses it
abbrev pub IsAllowed : Case → Command → Type 0
IsAllowed case command = refusal_of case command ≡ None

-- What a command leaves that is done, and what it tells: a database that was made, or where one is open its places after the change; none where all went; the table after the change; what the drives have in the
-- volume's blocks; the block in its place; the open table, printed. Never what an entry says that isn't kept.
abbrev pub Effect : Outcomes → Host → Kept → Command → Answer → Kept → Type 0
Effect calls host kept (AddPlaces slices force count blocks) answer next =
    (answer ≡ accepted) × MatchOption kept.memory.opened (IsCreated calls host (lines_asked host slices) count blocks kept next) (λ o. HasMovedOn calls host o (Adds (lines_asked host slices) count blocks) kept next)
Effect calls host kept (AddListed number force) answer next = ⊥
Effect calls host kept (DropPlaces slices force) answer next =
    (answer ≡ accepted) × (o : Opened) × (kept.memory.opened ≡ Some o) × MatchBool (are_all o slices) (IsDeletedOn calls host o kept next) (HasMovedOn calls host o (Drops slices) kept next)
Effect calls host kept (command.Alter alteration) answer next =
    (answer ≡ accepted) × (o : Opened) × (kept.memory.opened ≡ Some o) × IsCommitted calls host o (table_by host.drives alteration o.table) kept next
Effect calls host kept (Read volume at count) answer next =
    AreCalm calls × (v : Map) × HasBlocks host kept.memory volume at count v × (blocks : List (List ℕ)) × (length blocks ≡ count) × AreSeen v at blocks kept.content × (answer ≡ telling (values_reply at blocks)) × Stays kept next
Effect calls host kept (Write volume at what) answer next =
    AreCalm calls × (v : Map) × HasBlocks host kept.memory volume at (length (blocks_of what)) v × (answer ≡ accepted) × (next.memory ≡ kept.memory) × ArePut v at (blocks_of what) kept.content next.content
Effect calls host kept (command.Print names) answer next =
    AreCalm calls × (o : Opened) × (kept.memory.opened ≡ Some o) × (answer ≡ telling (printed_reply (listing_of o.table.plan names))) × Stays kept next

-- the volume has these blocks, and a call failed on a drive that one of them lies on, and on no other
pub record FailedBlocks (calls : Outcomes) (host : Host) (memory : Memory) (volume : VolId) (at count : ℕ) : Type 0 where
  pub map : Map
  pub there : HasBlocks host memory volume at count map
  pub drive : ℕ
  pub on : lies_on map at count drive ≡ true
  pub failed : FailedOn drive calls

-- It has these blocks, which are to be written. On some drives that they lie on a call failed, one on each, and on no other drive.
pub record FailedWrite (calls : Outcomes) (host : Host) (memory : Memory) (volume : VolId) (at count : ℕ) : Type 0 where
  pub map : Map
  pub there : HasBlocks host memory volume at count map
  pub failing : ℕ → Bool
  pub some : (drive : ℕ) × (failing drive ≡ true)
  pub on : (drive : ℕ) → failing drive ≡ true → lies_on map at count drive ≡ true
  pub failed : (drive : ℕ) → failing drive ≡ true → (calls drive).some
  pub calm : (drive : ℕ) → failing drive ≡ false → (calls drive).none

-- places of the open database were lost, so that of a list, the first one of which that is so, fewer than half took the table; no call failed beside their drives
pub record IsLostCommit (calls : Outcomes) (old : Opened) (table : Table) (active listed : ℕ) : Type 0 where
  pub new : Opened
  pub calm : AreCalmBeside (drives_of old.seats) calls
  pub lost : commit.IsLostNow calls old new table
  pub few : shortage new ≡ Some (record { active = active; listed = listed })

-- Of places that are added to an open database, and of those that are dropped: the calls that excuse the answer. One that failed on the drive of a dropped place is told where all go, and else isn't.
abbrev pub blame_of_more : Outcomes → Host → Opened → List SliceLine → ℕ → ℕ → Blame
blame_of_more calls host o lines count blocks = record {
  done = AreCalmBeside (drives_moved host.drives o (Adds lines count blocks)) calls;
  none = AreCalm calls;
  some = IsUnmoved calls host.drives o (Adds lines count blocks);
  lost = IsLostChange calls host.drives o (Adds lines count blocks);
}

abbrev pub blame_of_less : Outcomes → Host → Memory → List SliceName → Blame
blame_of_less calls host memory slices = record {
  done = (o : Opened) × (memory.opened ≡ Some o) × MatchBool (are_all o slices) (AreCalm calls) (AreCalmBeside (drives_moved host.drives o (Drops slices)) calls);
  none = AreCalm calls;
  some = (o : Opened) × (memory.opened ≡ Some o) × (are_all o slices ≡ true) × HasFailedOn (drives_under host.drives (list_of o)) calls × AreCalmBeside (drives_moved host.drives o KeepsFirst) calls;
  lost = λ active listed. (o : Opened) × (memory.opened ≡ Some o) × IsLostChange calls host.drives o (drop_of o slices) active listed;
}

abbrev pub blame_of_creation : Outcomes → Host → Memory → List SliceLine → ℕ → ℕ → Blame
blame_of_creation calls host memory lines count blocks = record {
  done = AreCalmBeside (drives_asked lines) calls;
  none = AreCalm calls;
  some = create.HasFailed calls (key_of host) (identity_of host memory.begun) lines count blocks;
  lost = λ active listed. create.IsLost calls (key_of host) (identity_of host memory.begun) lines count blocks active listed × AreCalmBeside (drives_asked lines) calls;
}

abbrev pub blame_of_places : Outcomes → Host → Memory → Option Opened → List SliceLine → ℕ → ℕ → Blame
blame_of_places calls host memory None lines count blocks = blame_of_creation calls host memory lines count blocks
blame_of_places calls host memory (Some o) lines count blocks = blame_of_more calls host o lines count blocks

-- Why a command is answered as it is, whatever is known of the drives' blocks: a transfer is done where no call failed, and tells one on the drive of its blocks; a creation tells one that failed in its formats, and ends the run where too few
-- places took its table, as a change does, and neither has a call that failed on a drive beside those of its places; a print makes no call.
abbrev pub blame_of : Outcomes → Host → Memory → Command → Blame
blame_of calls host memory (AddPlaces slices force count blocks) = blame_of_places calls host memory memory.opened (lines_asked host slices) count blocks
blame_of calls host memory (AddListed number force) = record { done = ⊥; none = AreCalm calls; some = ⊥; lost = λ active listed. ⊥ }
blame_of calls host memory (DropPlaces slices force) = blame_of_less calls host memory slices
blame_of calls host memory (command.Alter alteration) = record {
  done = (o : Opened) × (memory.opened ≡ Some o) × AreCalmBeside (drives_of o.seats) calls;
  none = AreCalm calls;
  some = ⊥;
  lost = λ active listed. (o : Opened) × (memory.opened ≡ Some o) × IsLostCommit calls o (table_by host.drives alteration o.table) active listed;
}
blame_of calls host memory (Read volume at count) = record { done = AreCalm calls; none = AreCalm calls; some = FailedBlocks calls host memory volume at count; lost = λ active listed. ⊥ }
blame_of calls host memory (Write volume at what) = record { done = AreCalm calls; none = AreCalm calls; some = FailedWrite calls host memory volume at (length (blocks_of what)); lost = λ active listed. ⊥ }
blame_of calls host memory (command.Print names) = record { done = AreCalm calls; none = AreCalm calls; some = ⊥; lost = λ active listed. ⊥ }

-- and whether it may find the number of its database's tables spent: a change alone, which draws the next
abbrev pub MaySpend : Memory → Command → Type 0
MaySpend memory (AddPlaces slices force count blocks) = MatchOption memory.opened ⊥ (λ o. Unit {0})
MaySpend memory (AddListed number force) = ⊥
MaySpend memory (DropPlaces slices force) = Unit {0}
MaySpend memory (command.Alter alteration) = Unit {0}
MaySpend memory (Read volume at count) = ⊥
MaySpend memory (Write volume at what) = ⊥
MaySpend memory (command.Print names) = ⊥

-- What is left where a call on a drive failed and the line tells it: one of the places that were to be formatted, one of those that all go, or one of the drives of the blocks, which is unsteady from then on if they were to be written. A change that can't be
-- committed ends the run instead.
abbrev pub Fault : Outcomes → Host → Kept → Command → Kept → Type 0
Fault calls host kept (AddPlaces slices force count blocks) next =
    MatchOption kept.memory.opened (IsUncreated calls host (lines_asked host slices) count blocks kept next) (λ o. IsUnmovedOn calls host o (lines_asked host slices) count blocks kept next)
Fault calls host kept (AddListed number force) next = ⊥
Fault calls host kept (DropPlaces slices force) next = (o : Opened) × (kept.memory.opened ≡ Some o) × (are_all o slices ≡ true) × IsUndeletedOn calls host o kept next
Fault calls host kept (command.Alter alteration) next = ⊥
Fault calls host kept (Read volume at count) next = FailedBlocks calls host kept.memory volume at count × Stays kept next
Fault calls host kept (Write volume at what) next =
    (failed : FailedWrite calls host kept.memory volume at (length (blocks_of what))) × HasUnsettled failed.failing kept.memory next.memory × MayBePut failed.map at (blocks_of what) kept.content next.content
Fault calls host kept (command.Print names) next = ⊥

-- the blocks of a `fill` are made before they are written
abbrev pub TakesMemory : Written → Type 0
TakesMemory (One block) = ⊥
TakesMemory (Filled count byte) = Unit {0}

-- What is left where memory was wanting. A change of volumes takes it for judging, too; a write of one block takes none, nor does a deletion of all places.
abbrev pub Wanting : Host → Kept → Command → Kept → Type 0
Wanting host kept (AddPlaces slices force count blocks) next =
    IsAllowed (case_of host kept) (AddPlaces slices force count blocks) × MatchOption kept.memory.opened (IsUnbegun kept next) (λ o. Stays kept next)
Wanting host kept (AddListed number force) next = ⊥
Wanting host kept (DropPlaces slices force) next =
    IsAllowed (case_of host kept) (DropPlaces slices force) × (o : Opened) × (kept.memory.opened ≡ Some o) × (are_all o slices ≡ false) × Stays kept next
Wanting host kept (command.Alter alteration) next = (o : Opened) × (kept.memory.opened ≡ Some o) × Stays kept next
Wanting host kept (Read volume at count) next = IsAllowed (case_of host kept) (Read volume at count) × Stays kept next
Wanting host kept (Write volume at what) next = TakesMemory what × IsAllowed (case_of host kept) (Write volume at what) × Stays kept next
Wanting host kept (command.Print names) next = IsAllowed (case_of host kept) (command.Print names) × Stays kept next

-- A creation that gives up has formatted each place, and leaves the table at those on whose drives no call failed, and each block outside its places as it was.
pub record LeavesPlaces (calls : Outcomes) (host : Host) (lines : List SliceLine) (count blocks active listed : ℕ) (kept next : Kept) : Type 0 where
  pub lost : create.IsLost calls (key_of host) (identity_of host kept.memory.begun) lines count blocks active listed
  pub calm : AreCalmBeside (drives_asked lines) calls
  pub formed : AreFormedOn host (identity_of host kept.memory.begun) lines count blocks next.content
  pub left : IsOpenOn host.drives (record { key = key_of host; identity = identity_of host kept.memory.begun; mark = first_mark; table = create.table_of (create.seats_asked (key_of host) (identity_of host kept.memory.begun) lines count blocks); seats = lost.now }) next.content
  pub beside : IsSameBeside (places_area lines count blocks) kept.content next.content

-- A change that gives up leaves the table at the places of the open database on whose drives no call failed, and each block outside its active places as it was.
pub record LeavesTable (calls : Outcomes) (host : Host) (o : Opened) (table : Table) (active listed : ℕ) (kept next : Kept) : Type 0 where
  pub lost : IsLostCommit calls o table active listed
  pub left : IsOpenOn host.drives (record lost.new { mark = commit.next_mark o.mark; table = table }) next.content
  pub beside : IsSameBeside (opened_area kept.memory.opened) kept.content next.content

-- Why the run is over with a command: too few places took the table, whose numbers are told, and each block outside them reads as it did; or the count would reach its limit, and nothing was done.
abbrev pub GivesUp : Outcomes → Host → Kept → Command → Ended → Kept → Type 0
GivesUp calls host kept (AddPlaces slices force count blocks) (ended.Lost active listed) next =
    MatchOption kept.memory.opened (LeavesPlaces calls host (lines_asked host slices) count blocks active listed kept next) (λ o. LeavesLists calls host o (Adds (lines_asked host slices) count blocks) active listed kept next)
GivesUp calls host kept (AddPlaces slices force count blocks) ended.Spent next = MatchOption kept.memory.opened ⊥ (λ o. IsSpentChange calls o kept next)
GivesUp calls host kept (DropPlaces slices force) (ended.Lost active listed) next = (o : Opened) × (kept.memory.opened ≡ Some o) × LeavesLists calls host o (drop_of o slices) active listed kept next
GivesUp calls host kept (DropPlaces slices force) ended.Spent next = (o : Opened) × (kept.memory.opened ≡ Some o) × IsSpentChange calls o kept next
GivesUp calls host kept (command.Alter alteration) (ended.Lost active listed) next =
    (o : Opened) × (kept.memory.opened ≡ Some o) × LeavesTable calls host o (table_by host.drives alteration o.table) active listed kept next
GivesUp calls host kept (command.Alter alteration) ended.Spent next = AreCalm calls × (o : Opened) × (kept.memory.opened ≡ Some o) × (2 ^ 63 ≤ o.mark.count + 1) × Stays kept next
GivesUp calls host kept command end next = ⊥

-- What a command comes to, the same for all: the first cause refuses it, and nothing is done; memory is wanting; it is done; a call on the drive
-- failed; or the run is over with it. No call failed where it is refused or wanting.
pub data CameTo (calls : Outcomes) (host : Host) (kept : Kept) (command : Command) (answer : Answer) (next : Kept) : Type 0 where
  refused : AreCalm calls → (refusal : Refusal) → refusal_of (case_of host kept) command ≡ Some refusal → IsTurnedDown refusal kept answer next → CameTo calls host kept command answer next
  wanting : AreCalm calls → answer ≡ refusing OutOfMemory → Wanting host kept command next → CameTo calls host kept command answer next
  done : IsAllowed (case_of host kept) command → Effect calls host kept command answer next → CameTo calls host kept command answer next
  faulted : IsAllowed (case_of host kept) command → answer ≡ refusing IoFault → Fault calls host kept command next → CameTo calls host kept command answer next
  over : (end : Ended) → IsAllowed (case_of host kept) command → answer ≡ Over end → GivesUp calls host kept command end next → CameTo calls host kept command answer next

-- why the lines of a `tab` block aren't kept: one begins an entry that is of no form; or they are too many bytes or entries
abbrev pub IsTabRefusal : List ℕ → Refusal → Type 0
IsTabRefusal lines BadLine = (number : ℕ) × IsFaultOf lines (fault.BadLine number)
IsTabRefusal lines TooMany = IsFaultOf lines fault.TooMany
IsTabRefusal lines other = ⊥

-- What a `tab` block with these lines comes to, by which no call is made on the drive: all its entries are kept in place of those before, and their number is
-- told; it is refused, or memory is wanting, and the entries stay that were kept before.
pub data KeepsTab (calls : Outcomes) (kept : Kept) (lines : List ℕ) (answer : Answer) (next : Kept) : Type 0 where
  entered : AreCalm calls → (entries : List Entry) → IsTab lines entries → answer ≡ telling (entries_reply (length entries)) → next.memory ≡ record kept.memory { entries = entries } → IsSame kept.content next.content → KeepsTab calls kept lines answer next
  unfit : AreCalm calls → (refusal : Refusal) → IsTabRefusal lines refusal → IsTurnedDown refusal kept answer next → KeepsTab calls kept lines answer next
  unread : AreCalm calls → answer ≡ refusing OutOfMemory → Stays kept next → KeepsTab calls kept lines answer next

-- what a line comes to, or a `tab` block; a command by what it means with the entries that are kept
abbrev pub ComesTo : Outcomes → Host → Kept → Line → Answer → Kept → Type 0
ComesTo calls host kept words.Boot answer next = IsRebooted calls host kept answer next
ComesTo calls host kept (words.Tab lines) answer next = KeepsTab calls kept lines answer next
ComesTo calls host kept (words.Exec command) answer next = CameTo calls host kept (meant kept.memory.entries command) answer next
