-- What a boot makes of the newest table that it read.
use Rattle.std.specs.Prelude.{◌≡◌, ◌⊎◌, Bool, true, false, All, List, Contains, Some, MatchOption}
use Rattle.std.specs.Bool.{MatchBool}
use Rattle.mdv_base.specs.DriveSet.{Drives, has_drive}
use Rattle.mdv_shelf.specs.Shelves.{AtEnd, DriveFailures}
use Rattle.mdv_survey.specs.Choice.{IsTheOne}
use Rattle.mdv_survey.specs.Newest.{IsTableIn}
use Rattle.mdv_survey.specs.Replica.{IsFoundIn}
use Rattle.mdv_survey.specs.declared.replica.Newest.{Newest}
use Rattle.mdv_survey.specs.declared.replica.Survey.{Survey}
use Rattle.mdv_store.specs.Below.{DriveNo, Geometry, Ghosts, IsSound, IsSynced, Replica, Site, Table, Tale, last, site_of}
use Rattle.mdv_store.specs.Boot.{IfAdopted, IsEndBy, IsOnce, WasChosen, is_memory}
use Rattle.mdv_store.specs.Booting.{BootMomentOn, IsBootedOn, has_written}
use Rattle.mdv_store.specs.Seats.{AreLaid, drive_of}
use Rattle.mdv_store.specs.Progress.{Progress}
use Rattle.mdv_store.specs.Taking.{IsCalmOver, LeftHold, Rewrites}
use Rattle.mdv_store.specs.declared.booting.Hand.{Hand}
use Rattle.mdv_store.specs.declared.booting.BootEnd.{BootEnd}
use Rattle.mdv_store.specs.declared.booting.Taken.{Taken}

-- each of the drives is in the set, or one isn't
abbrev pub AreAllIn : Bool → List DriveNo → Drives → Type 0
AreAllIn all drives set = MatchBool all (All (λ drive. has_drive set drive ≡ true) drives) ((drive : DriveNo) × Contains drives drive × (has_drive set drive ≡ false))

-- there is a newest table, of the one database that shows tables
abbrev pub HasOne : Survey → Type 0
HasOne survey = MatchOption survey.newest ⊥ (λ newest. (replica : Replica) × IsTheOne survey.replicas newest replica)

-- What was read of these replicas, and of the newest table that they show.
pub record WasReadOf (g : Geometry) (site : Site) (replicas : List Replica) (newest : Newest) (t : Tale) : Type 0 where
  pub sound : IsSound g
  pub site_is : site ≡ site_of g site.key
  pub each : (r : Replica) → Contains replicas r → IsFoundIn g site (last t) r
  pub table : IsTableIn g (last t) replicas newest
  pub synced : (r : Replica) → Contains replicas r → IsSynced (drive_of r) t

-- they are just those that are found on such drives
pub record AreJustOn (g : Geometry) (site : Site) (up : Drives) (replicas : List Replica) (t : Tale) : Type 0 where
  pub on : (r : Replica) → Contains replicas r → has_drive up r.line.at.drive ≡ true
  pub all : (r : Replica) → IsFoundIn g site (last t) r → has_drive up r.line.at.drive ≡ true → Contains replicas r

-- what was written of it, and what the places that are left hold then
pub record WroteOf {S : Type 0} (shelf : Ghosts S) (old new : S) (site : Site) (replicas : List Replica) (newest : Newest) (calm : Bool) (hand : Hand) (table : Table) (progress : Progress) : Type 0 where
  pub rewrites : Rewrites shelf old new site.key hand table calm progress
  pub shows : AtEnd shelf (λ t u. (g : Geometry) → WasReadOf g site replicas newest t → LeftHold g site.key hand table progress u) old new

-- an end that follows from any survey with these replicas and this newest table of one database
pub record IsAdoptAnswer {S : Type 0} (shelf : Ghosts S) (old new : S) (site : Site) (replicas : List Replica) (newest : Newest) (taken : Taken) : Type 0 where
  pub ended : (is_memory taken.end ≡ true) ⊎ ((survey : Survey) (replica : Replica) → survey.replicas ≡ replicas → survey.newest ≡ Some newest → IsTheOne replicas newest replica → WasChosen survey → IsEndBy (DriveFailures shelf old new) (WroteOf shelf old new site replicas newest taken.calm) site survey taken.end)
  pub calm : IsCalmOver shelf old new replicas taken.calm
  pub once : (drive : DriveNo) → IsOnce (DriveFailures shelf old new drive.0)
  pub still : has_written taken.end ≡ false → new ≡ old
  pub laid : IfAdopted taken.end (λ o. AreLaid (shelf.sizes old) o.seats)

abbrev pub AdoptMoment : Site → List Replica → Newest → BootEnd → Tale → Tale → Type 0
AdoptMoment site replicas newest answer t m =
    (g : Geometry) (replica : Replica) (up : Drives) → IsTheOne replicas newest replica → WasReadOf g site replicas newest t → AreJustOn g site up replicas t → BootMomentOn up g site answer t m

abbrev pub AdoptEnds : Site → List Replica → Newest → BootEnd → Tale → Tale → Type 0
AdoptEnds site replicas newest answer t u =
    (g : Geometry) (replica : Replica) (up : Drives) → IsTheOne replicas newest replica → WasReadOf g site replicas newest t → AreJustOn g site up replicas t → IfAdopted answer (λ o. IsBootedOn up g site o t u)
