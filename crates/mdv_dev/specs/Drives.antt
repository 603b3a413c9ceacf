-- Calls on some drives: those that pass a test, or that some blocks of a device lie on.
use Rattle.std.specs.Prelude.{◌≡◌, ℕ, Bool, true}
use Rattle.mdv_shelf.specs.Calls.{Part, OnDrive}
use Rattle.mdv_shelf.specs.Story.{InTime}
use Rattle.mdv_shelf.specs.Shelves.{GoesOn, Keeps, StopsAtFailures}
use Rattle.mdv_shelf.specs.declared.shelf.Shelf.{Ghosts}
use Rattle.mdv_dev.specs.Below.{Map}
use Rattle.mdv_dev.specs.Pieces.{has_drive}

-- the part is a drive that passes the test
abbrev pub IsDriveWhere : (ℕ → Bool) → Part → Type 0
IsDriveWhere passes part = (drive : ℕ) × (passes drive ≡ true) × (part ≡ OnDrive drive)

-- the part is a drive that one of so many blocks of the device lies on, from that one on
abbrev pub IsDriveOf : Map → ℕ → ℕ → Part → Type 0
IsDriveOf v at count part = IsDriveWhere (has_drive v at count) part

-- A stretch of calls that stops at a failure, on the drives that pass a test: on no other part a call changed something, or failed.
pub record KeptWhere {S : Type 0} (shelf : Ghosts S) (old new : S) (passes : ℕ → Bool) : Type 0 where
  pub keeps : Keeps shelf old new
  pub goes : GoesOn shelf old new
  pub in_time : StopsAtFailures shelf old new
  pub others : (other : Part) → (IsDriveWhere passes other → ⊥) → shelf.faults new other ≡ shelf.faults old other
  pub elsewhere : (other : Part) → (IsDriveWhere passes other → ⊥) → (n : ℕ) → InTime other n (shelf.story old) (shelf.story new)

-- on the drives that these blocks lie on
abbrev pub KeptOnDrives : {S : Type 0} → Ghosts S → S → S → Map → ℕ → ℕ → Type 0
KeptOnDrives shelf old new v at count = KeptWhere shelf old new (has_drive v at count)
