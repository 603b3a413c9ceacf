-- What it says that drives were brought up.
use Rattle.std.specs.Prelude.{◌≡◌, ◌≤◌, ℕ, Bool, true, false, List, [], ◌∷◌, Contains, Result, Ok, Err, if◌then◌else◌}
use Rattle.std.specs.Bool.{MatchBool}
use Rattle.mdv_base.specs.declared.drive.DriveNo.{DriveNo}
use Rattle.mdv_base.specs.DriveSet.{Drives, has_drive}
use Rattle.mdv_shelf.specs.Calls.{OnDrive}
use Rattle.mdv_shelf.specs.Shelves.{DriveFailures, KeptOn, MadeCalls}
use Rattle.mdv_store_law.specs.Effort.{BroughtUpBy}
use Rattle.mdv_survey.specs.Counts.{FailedAtLast, MadeReads}
use Rattle.mdv_look.specs.Below.{Failures, Ghosts, IsSynced, Synced, Tale, Then}

-- those of the drives are up on which no call failed, and on each other one just one did; no other drive is up
pub record AreUpBy (failed : ℕ → Failures) (drives : List DriveNo) (up : Drives) : Type 0 where
  pub each : (drive : DriveNo) → Contains drives drive → MatchBool (has_drive up drive) (failed drive.0).none (failed drive.0).some
  pub others : (drive : DriveNo) → (Contains drives drive → ⊥) → has_drive up drive ≡ false

-- no crash takes back what is read of a drive that is up
abbrev pub AreSynced : Drives → Tale → Type 0
AreSynced up u = (drive : DriveNo) → has_drive up drive ≡ true → IsSynced drive.0 u

-- a tale with the sync of each of the drives that is up, in their order
abbrev pub brought_up : Drives → List DriveNo → Tale → Tale
brought_up up [] t = t
brought_up up (drive ∷ drives) t = brought_up up drives (if has_drive up drive then Then t (Synced drive.0) else t)

-- in the end just these syncs were done
pub record BringingEnds (up : Drives) (drives : List DriveNo) (t u : Tale) : Type 0 where
  pub tale : u ≡ brought_up up drives t
  pub synced : AreSynced up u

-- the last of the calls failed, behind one at most
abbrev pub HasFailedAtLast : {S : Type 0} → Ghosts S → S → S → ℕ → Type 0
HasFailedAtLast shelf old new drive = (last : FailedAtLast shelf old new drive) × (last.calls ≤ 1)

-- a read and a sync; where one failed, no call behind it
abbrev pub IsTryCounted : {S T E : Type 0} → Ghosts S → S → S → ℕ → Result T E → Type 0
IsTryCounted shelf old new drive (Ok done) = MadeCalls shelf old new 2 0
IsTryCounted shelf old new drive (Err fault) = HasFailedAtLast shelf old new drive

-- A drive that is up took two calls, of which none failed; another one one that failed, behind one at most that didn't. On no other drive was anything done.
pub record IsDriveTried {S : Type 0} (shelf : Ghosts S) (old new : S) (drive : DriveNo) (is_up : Bool) : Type 0 where
  pub came : MatchBool is_up ((DriveFailures shelf old new drive.0).none × MadeCalls shelf old new 2 0) (HasFailedAtLast shelf old new drive.0)
  pub kept : KeptOn shelf old new (OnDrive drive.0)

-- so were these drives, one after another, and nothing was done in between
abbrev pub AreTriedBy : {S : Type 0} → Ghosts S → S → S → List DriveNo → Drives → Type 0
AreTriedBy shelf old new [] up = new ≡ old
AreTriedBy {S} shelf old new (drive ∷ drives) up = (mid : S) × IsDriveTried shelf old mid drive (has_drive up drive) × AreTriedBy shelf mid new drives up

-- so many reads and syncs brought these drives up, drive by drive
pub record IsBringingCounted {S : Type 0} (shelf : Ghosts S) (old new : S) (drives : List DriveNo) (up : Drives) : Type 0 where
  pub calls : ℕ
  pub by : BroughtUpBy drives up calls
  pub made : MadeReads shelf old new calls
  pub steps : AreTriedBy shelf old new drives up
