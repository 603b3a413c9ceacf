-- What is left where calls of a write failed.
use Rattle.std.specs.Prelude.{◌≡◌, ℕ, ◌+◌, ◌||◌, Bool, true, false, not, Result, OnOk, IfErr, Ok, Err}
use Rattle.mdv_base.specs.DriveSet.{Drives, has_drive as has}
use Rattle.mdv_base.specs.declared.drive.Failed.{Failed}
use Rattle.mdv_shelf.specs.Made.{made_of}
use Rattle.mdv_shelf.specs.Shelves.{AtEnd, DriveFailures}
use Rattle.mdv_shelf.specs.declared.shelf.Shelf.{Ghosts}
use Rattle.mdv_dev.specs.Below.{AreCalm, Map, OnDrives, Took}
use Rattle.mdv_dev.specs.Pieces.{drives, has_drive, pieces}

-- On some drives that so many blocks lie on a call failed, one on each, and on no other drive.
pub record HaveFailed {S : Type 0} (shelf : Ghosts S) (old new : S) (v : Map) (at count : ℕ) (failing : ℕ → Bool) : Type 0 where
  pub some : (drive : ℕ) × (failing drive ≡ true)
  pub on : (drive : ℕ) → failing drive ≡ true → has_drive v at count drive ≡ true
  pub failed : (drive : ℕ) → failing drive ≡ true → (DriveFailures shelf old new drive).some
  pub calm : (drive : ℕ) → failing drive ≡ false → (DriveFailures shelf old new drive).none

-- these drives are in the set, beside those that were
abbrev pub AreAdded : (ℕ → Bool) → Drives → Drives → Type 0
AreAdded failing before after = (drive : ℕ) → has after (record { 0 = drive }) ≡ (failing drive || has before (record { 0 = drive }))

-- A write of which calls failed: these drives are told, and of the copies of its blocks on the others a crash leaves only what a read gives.
pub record IsTorn {S : Type 0} (shelf : Ghosts S) (old new : S) (v : Map) (at count : ℕ) (before after : Drives) : Type 0 where
  pub failing : ℕ → Bool
  pub have : HaveFailed shelf old new v at count failing
  pub told : AreAdded failing before after
  pub others : AtEnd shelf (λ _ u. OnDrives v (λ drive. not (failing drive)) at count u) old new

-- what the set of drives is behind a write
abbrev pub IsTold : {S : Type 0} → Ghosts S → S → S → Map → ℕ → ℕ → Drives → Drives → Result (Unit {0}) Failed → Type 0
IsTold shelf old new v at count before after (Ok done) = (after ≡ before) × AreCalm (DriveFailures shelf old new)
IsTold shelf old new v at count before after (Err fault) = IsTorn shelf old new v at count before after

-- a write makes a call for each piece, and one for each drive; where calls failed one at least, and no more
pub record TakesWrite {S : Type 0} (shelf : Ghosts S) (old new : S) (v : Map) (at count : ℕ) (result : Result (Unit {0}) Failed) : Type 0 where
  pub done : OnOk result (Took shelf.calls shelf.written old new (pieces v at count + drives v at count) count)
  pub failed : IfErr result (λ fault. (made_of shelf old new).within 1 (pieces v at count + drives v at count) count)
