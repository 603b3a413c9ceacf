-- Which drives are lost behind a record: those on which a call failed.
use Rattle.std.specs.Prelude.{◌≡◌, ◌<◌, ◌≤◌, ◌||◌, ◌&&◌, ℕ, Bool, false, not, List, Contains, Option, None, Some}
use Rattle.std.specs.Bool.{MatchBool}
use Rattle.mdv_acts.specs.Wipes.{AreLostBy, IsJoined}
use Rattle.mdv_base.specs.DriveSet.{Drives, has_drive}
use Rattle.mdv_store.specs.Seats.{drive_of}
use Rattle.mdv_places.specs.Below.{DriveNo, Failures, Replica, Seat, drives_of, replicas_of}

-- a set of drives holds those of the active places
abbrev pub AreNumbered : List Seat → Type 0
AreNumbered seats = (r : Replica) → Contains (replicas_of seats) r → drive_of r < 256

-- the set has these and no other
abbrev pub AreDrivesOf : Drives → List Seat → Type 0
AreDrivesOf set seats = (drive : DriveNo) → MatchBool (has_drive set drive) (Contains (drives_of seats) drive) (Contains (drives_of seats) drive → ⊥)

-- the set with the drive of a place, where that is active
abbrev pub HasJoined : Drives → Option Replica → Drives → Type 0
HasJoined before None now = now ≡ before
HasJoined before (Some r) now = IsJoined before r.line.at.drive now

-- the drive was lost before, or was tried and isn't up any more
abbrev pub is_lost : Drives → Drives → Drives → DriveNo → Bool
is_lost before tried up drive = has_drive before drive || (has_drive tried drive && not (has_drive up drive))

-- of the drives up to this one those are in the set of which that is so; of the others those that were in it before
pub record AreMissed (count : ℕ) (before tried up now : Drives) : Type 0 where
  pub within : (drive : DriveNo) → drive.0 < count → has_drive now drive ≡ is_lost before tried up drive
  pub behind : (drive : DriveNo) → count ≤ drive.0 → has_drive now drive ≡ has_drive before drive

-- no active place lies on a lost drive
abbrev pub AreApart : Drives → List Seat → Type 0
AreApart lost seats = (drive : DriveNo) → Contains (drives_of seats) drive → has_drive lost drive ≡ false

-- Those are lost too on which a call failed, and just one; on none that was lost one was made; and no place that is active then lies on a lost one.
pub record AreLost (failed : ℕ → Failures) (before now : Drives) (seats : List Seat) : Type 0 where
  pub by : AreLostBy failed before now
  pub apart : AreApart now seats
