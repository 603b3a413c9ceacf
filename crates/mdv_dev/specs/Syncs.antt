-- Syncs of the drives that some blocks of a device lie on, but of one that is lost.
use Rattle.std.specs.Prelude.{◌≡◌, ℕ, zero, suc, ◌+◌, Bool, true, false, not, ◌&&◌, ◌==◌, Option, None, Some, Result, OnOk, OnErr}
use Rattle.mdv_base.specs.DriveSet.{Drives}
use Rattle.mdv_base.specs.declared.drive.Failed.{Failed}
use Rattle.mdv_shelf.specs.Shelves.{AtEnd, DriveFailures, MadeCalls}
use Rattle.mdv_shelf.specs.declared.shelf.Shelf.{Ghosts}
use Rattle.mdv_dev.specs.Below.{DriveNo, IsSynced, Map}
use Rattle.mdv_dev.specs.Pieces.{count_to, drive_of, has_drive, is_new}
use Rattle.mdv_dev.specs.Writing.{AreAdded}

-- whether it is the drive that is lost
abbrev pub is_lost : Option DriveNo → ℕ → Bool
is_lost None drive = false
is_lost (Some lost) drive = drive == lost.0

-- whether it is this drive, and not lost
abbrev pub is_that : Option DriveNo → ℕ → ℕ → Bool
is_that lost one drive = drive == one && not (is_lost lost drive)

-- whether one of so many blocks lies on the drive, which isn't lost
abbrev pub is_due : Map → ℕ → Option DriveNo → ℕ → ℕ → Bool
is_due v at lost count drive = has_drive v at count drive && not (is_lost lost drive)

-- whether a drive is synced at the block of this number, and how often that is so among so many
abbrev pub is_sync : Map → ℕ → Option DriveNo → ℕ → Bool
is_sync v at lost k = is_new v at k && not (is_lost lost (drive_of (v.copies (at + k))))

abbrev pub syncs : Map → ℕ → Option DriveNo → ℕ → ℕ
syncs v at lost count = count_to (is_sync v at lost) count

-- exactly so many calls, which write nothing; where there is none the shelf is as it was
abbrev pub MadeSyncs : {S : Type 0} → Ghosts S → S → S → ℕ → Type 0
MadeSyncs shelf old new zero = new ≡ old
MadeSyncs shelf old new (suc more) = MadeCalls shelf old new (suc more) 0

-- Each drive that passes the test is synced in the end, with all that it was given before, but for those on which a call failed. These are told.
pub record AreSynced {S : Type 0} (shelf : Ghosts S) (old new : S) (due : ℕ → Bool) (before after : Drives) (result : Result (Unit {0}) Failed) : Type 0 where
  pub failing : ℕ → Bool
  pub among : (drive : ℕ) → failing drive ≡ true → due drive ≡ true
  pub failed : (drive : ℕ) → failing drive ≡ true → (DriveFailures shelf old new drive).some
  pub calm : (drive : ℕ) → failing drive ≡ false → (DriveFailures shelf old new drive).none
  pub told : AreAdded failing before after
  pub synced : AtEnd shelf (λ _ u. (drive : ℕ) → due drive ≡ true → failing drive ≡ false → IsSynced drive u) old new
  pub whole : OnOk result ((after ≡ before) × ((drive : ℕ) → failing drive ≡ false))
  pub some : OnErr result ((drive : ℕ) × (failing drive ≡ true))
