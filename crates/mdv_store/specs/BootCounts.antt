-- How many calls a boot makes, and how many blocks it writes.
use Rattle.std.specs.Prelude.{◌≡◌, ◌+◌, ◌*◌, ℕ, true, false, List, length, Some}
use Rattle.mdv_base.specs.DriveSet.{no_drives}
use Rattle.mdv_shelf.specs.Shelves.{MadeCalls}
use Rattle.mdv_survey.specs.Counts.{AreLinesBy, MadeReads}
pub use Rattle.mdv_look.specs.Looking.{most_reads}
use Rattle.mdv_store.specs.Below.{Geometry, Ghosts, Site, Table, Tale, last, record_bytes, settled}
use Rattle.mdv_store.specs.Booting.{has_written}
use Rattle.mdv_store.specs.Counts.{MadeCallsBetween}
use Rattle.mdv_store.specs.Opened.{Opened}
use Rattle.mdv_store.specs.Progress.{Claimed, Progress, Rewritten, Settled}
use Rattle.mdv_store.specs.Seats.{active_of}
use Rattle.mdv_store.specs.Settled.{again_of, seats_now, settles}
use Rattle.mdv_store.specs.Text.{blocks_for}
use Rattle.mdv_store.specs.declared.booting.BootEnd.{BootEnd}
use Rattle.mdv_store.specs.declared.booting.BootEnd.TheVariants as end
use Rattle.mdv_store.specs.declared.booting.Booted.{Booted}
use Rattle.mdv_store.specs.declared.seats.Seat.{Seat}

-- what a boot calls at most to write: two calls for a claim and six for a table at each of a hundred places, those of two lists, and six again at each of fifty
abbrev pub most_calls : ℕ
most_calls = 8 * 100 + 6 * 50

-- and what it writes at most: of each a claim, two gates and the longest text, and those of fifty again
abbrev pub most_blocks : ℕ
most_blocks = 100 * 4097 + 50 * 4096

-- so many calls, and blocks, take these places that were found, with a table: those of the new list again, where it has two
abbrev pub calls_at : List Seat → Table → ℕ
calls_at seats table = 8 * active_of seats + 6 * active_of (seats_now seats (again_of table.plan.lists))

abbrev pub blocks_at : List Seat → Table → ℕ
blocks_at seats table = (3 + blocks_for (record_bytes table)) * active_of seats + (2 + blocks_for (record_bytes (settled table))) * active_of (seats_now seats (again_of table.plan.lists))

-- So many calls, and blocks, took writes that came so far, where none failed.
abbrev pub calls_by : List Seat → Progress → ℕ
calls_by seats (Claimed now) = 2 * active_of seats
calls_by seats (Rewritten now) = 8 * active_of seats
calls_by seats (Settled last gone) = 8 * active_of seats + 6 * active_of last

abbrev pub blocks_by : List Seat → Table → Progress → ℕ
blocks_by seats table (Claimed now) = active_of seats
blocks_by seats table (Rewritten now) = (3 + blocks_for (record_bytes table)) * active_of seats
blocks_by seats table (Settled last gone) = (3 + blocks_for (record_bytes table)) * active_of seats + (2 + blocks_for (record_bytes (settled table))) * active_of last

-- A table was written anew without a failed call, behind so many calls: eight at each place that was found, with a claim, two gates and its text; and where it
-- had two lists, six more at each place of the new one, with two gates and the text with that list alone.
pub record IsAnewCounted (Made : (calls blocks : ℕ) → Type 0) (before : ℕ) (o : Opened) : Type 0 where
  pub table : Table
  pub found : ℕ
  pub is : o.table ≡ settled table
  pub marked : o.mark.count ≡ settles table.plan.lists
  pub one : settles table.plan.lists ≡ 0 → found ≡ active_of o.seats
  pub made : Made (before + (8 * found + 6 * (settles table.plan.lists * active_of o.seats)))
      ((3 + blocks_for (record_bytes table)) * found + (2 + blocks_for (record_bytes o.table)) * (settles table.plan.lists * active_of o.seats))

-- Behind so many calls that wrote nothing: those by which one that adopts wrote anew; one that adopts nothing made none.
abbrev pub IsEndCounted : {S : Type 0} → Ghosts S → S → S → ℕ → BootEnd → Type 0
IsEndCounted shelf old new before (end.Adopted o) = IsAnewCounted (MadeCalls shelf old new) before o
IsEndCounted shelf old new before end.Empty = MadeReads shelf old new before
IsEndCounted shelf old new before (end.TwoDatabases a b) = MadeReads shelf old new before
IsEndCounted shelf old new before (end.NoQuorum readable needed) = MadeReads shelf old new before
IsEndCounted shelf old new before (end.Lost active listed) = Unit {0}
IsEndCounted shelf old new before end.Spent = MadeReads shelf old new before
IsEndCounted shelf old new before end.Memory = Unit {0}

-- A boot on which no call failed read block 0 of each drive and synced it, and read each head and each body of an open slot once. Whatever failed, it made no more
-- calls than these for each look, and those of a hundred places, and of fifty again. One that adopts nothing and isn't lost made those of its looks alone, and wrote no block.
pub record IsBootCounted {S : Type 0} (shelf : Ghosts S) (old new : S) (g : Geometry) (site : Site) (answer : Booted) : Type 0 where
  pub most : MadeCallsBetween shelf old new 0 (2 * length site.drives + most_reads site + most_calls) most_blocks
  pub still : has_written answer.end ≡ false → MadeCallsBetween shelf old new 0 (2 * length site.drives + most_reads site) 0
  pub clean : answer.clean ≡ true → (t : Tale) → shelf.tale old ≡ Some t
      → (reads : ℕ) × AreLinesBy g site answer.up no_drives (last t) site.lines reads × IsEndCounted shelf old new (2 * length site.drives + reads) answer.end
