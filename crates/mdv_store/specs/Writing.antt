-- What a pass says that spells a table once, and writes it to each active place.
use Rattle.std.specs.Prelude.{◌+◌, ℕ, List, [], length}
use Rattle.mdv_store.specs.Below.{Ghosts, Mark, Replica, Table, Tale, record_bytes}
use Rattle.mdv_store.specs.Counts.{ArePassCounted}
use Rattle.mdv_store.specs.Passing.{IsPassing, Passed, WentBy, slotting}
use Rattle.mdv_shelf.specs.Drives.{KeptAmong}
use Rattle.mdv_shelf.specs.Shelves.{AtEachTale, AtEnd, DriveFailures}
use Rattle.mdv_store.specs.Seats.{AreLeft, TakesSlot, drives_of}
use Rattle.mdv_store.specs.Slots.{SlottingEnds, SlottingMoment}
use Rattle.mdv_store.specs.Text.{IsSpelled, blocks_for}
use Rattle.mdv_store.specs.declared.seats.Seat.{Seat}

-- how many bytes a table's text has
abbrev pub text_size : Table → ℕ
text_size table = record_bytes table

-- A body of the table is written to these replicas, one by one in their order; and nothing else is done.
abbrev pub IsBeingWritten : List Replica → Mark → Table → Tale → Tale → Type 0
IsBeingWritten replicas mark table t m = (body : List (List ℕ)) × IsSpelled table (text_size table) body × IsPassing (slotting mark (text_size table) body) replicas t m

-- It was written to them, and these are left.
abbrev pub IsWrittenOver : List Replica → Mark → Table → Tale → List Replica → Tale → Type 0
IsWrittenOver replicas mark table t left u = (body : List (List ℕ)) × IsSpelled table (text_size table) body × Passed (slotting mark (text_size table) body) replicas t left [] u

-- One body of the table was written to the active places, at each place in turn.
abbrev pub AreWrittenBy : {S : Type 0} → Ghosts S → Mark → Table → S → S → List Seat → List Seat → Type 0
AreWrittenBy shelf mark table old new before now =
    (body : List (List ℕ)) × IsSpelled table (text_size table) body × WentBy shelf (slotting mark (text_size table) body) old before (length before) new now

-- and so many calls were made
pub record WereWritten {S : Type 0} (shelf : Ghosts S) (mark : Mark) (table : Table) (old new : S) (before now : List Seat) : Type 0 where
  pub steps : AreWrittenBy shelf mark table old new before now
  pub counted : ArePassCounted shelf old new 6 (2 + blocks_for (text_size table)) before now

-- a body of the table is written
pub record WritingMoment (seats : List Seat) (mark : Mark) (table : Table) (t m : Tale) : Type 0 where
  pub body : List (List ℕ)
  pub spelled : IsSpelled table (text_size table) body
  pub slotting : SlottingMoment seats mark (text_size table) body t m

-- and was in the end
pub record WritingEnds (old new : List Seat) (mark : Mark) (table : Table) (t u : Tale) : Type 0 where
  pub body : List (List ℕ)
  pub spelled : IsSpelled table (text_size table) body
  pub slotting : SlottingEnds old new mark (text_size table) body t u

-- all of what such a pass says
pub record WroteAll {S : Type 0} (shelf : Ghosts S) (mark : Mark) (table : Table) (old new : S) (before now : List Seat) : Type 0 where
  pub left : AreLeft (DriveFailures shelf old new) (TakesSlot mark (text_size table)) before now
  pub moments : AtEachTale shelf (WritingMoment before mark table) old new
  pub ends : AtEnd shelf (WritingEnds before now mark table) old new
  pub passed : WereWritten shelf mark table old new before now
  pub kept : KeptAmong shelf old new (drives_of before)
