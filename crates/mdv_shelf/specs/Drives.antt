-- Several drives of a shelf, and a stretch of calls on them alone.
use Rattle.std.specs.Prelude.{◌≡◌, ◌≤◌, ℕ, List, Contains, Some, length, slice_get}
use Rattle.mdv_base.specs.declared.drive.DriveNo.{DriveNo}
use Rattle.mdv_shelf.specs.Calls.{Part, OnDrive, InDrive}
use Rattle.mdv_shelf.specs.Story.{InTime}
use Rattle.mdv_shelf.specs.Shelves.{Keeps, GoesOn, StopsAtFailures}
use Rattle.mdv_shelf.specs.declared.shelf.Shelf.{Ghosts}

-- drives of a shelf that has no more than a set of drives holds: each of them has a block, and is named once
pub record AreDrives (sizes : List ℕ) (drives : List DriveNo) : Type 0 where
  pub few : length sizes ≤ 256
  pub each : (drive : DriveNo) → Contains drives drive → InDrive sizes drive.0 0 1
  pub once : (j k : ℕ) (drive : DriveNo) → slice_get drives j ≡ Some drive → slice_get drives k ≡ Some drive → j ≡ k

-- the part is one of these drives
abbrev pub IsAmong : List DriveNo → Part → Type 0
IsAmong drives part = (drive : DriveNo) × Contains drives drive × (part ≡ OnDrive drive.0)

-- A stretch that stops at a failure, on each of these drives by itself: on no other part a call changed something, or failed.
pub record KeptAmong {S : Type 0} (shelf : Ghosts S) (old new : S) (drives : List DriveNo) : Type 0 where
  pub keeps : Keeps shelf old new
  pub goes : GoesOn shelf old new
  pub in_time : StopsAtFailures shelf old new
  pub others : (other : Part) → (IsAmong drives other → ⊥) → shelf.faults new other ≡ shelf.faults old other
  pub elsewhere : (other : Part) → (IsAmong drives other → ⊥) → (count : ℕ) → InTime other count (shelf.story old) (shelf.story new)
