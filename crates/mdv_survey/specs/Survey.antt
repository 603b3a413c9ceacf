-- What a survey finds.
use Rattle.std.specs.Prelude.{◌≡◌, ℕ, Bool, true, false, ◌&&◌, not, List, [], ◌∷◌, ◌++◌, Contains}
use Rattle.std.specs.Bool.{MatchBool}
use Rattle.mdv_shelf.specs.Drives.{KeptAmong}
use Rattle.mdv_shelf.specs.Shelves.{DriveFailures}
use Rattle.mdv_survey.specs.Below.{DriveNo, Drives, Geometry, Ghosts, PlaceAt, Site, SliceLine, has_drive}
use Rattle.mdv_survey.specs.Newest.{HasTable, IsMarked}
use Rattle.mdv_survey.specs.Others.{ComesTo, IsOtherIn, IsNumberTold}
use Rattle.mdv_survey.specs.Replica.{AreOrdered, Contents, IsFoundIn, IsListed}
use Rattle.mdv_survey.specs.Slice.{AreFound, AreListed}
use Rattle.mdv_survey.specs.declared.replica.Finds.{Finds}
use Rattle.mdv_survey.specs.declared.replica.Other.{Other}
use Rattle.mdv_survey.specs.declared.replica.Replica.{Replica}
use Rattle.mdv_survey.specs.declared.replica.Survey.{Survey}

-- the drive is up, and no call on it failed
abbrev pub answers_in : Drives → Drives → DriveNo → Bool
answers_in up failed drive = has_drive up drive && not (has_drive failed drive)

-- whatever the drives have: the replicas lie on slices of the site, on drives that are up, in their order; the newest table has the greatest of their marks; and all other
-- places lie on such slices
pub record IsSurvey (site : Site) (up : Drives) (survey : Survey) : Type 0 where
  pub each : (r : Replica) → Contains survey.replicas r → IsListed site up r
  pub ordered : AreOrdered site.lines survey.replicas
  pub marked : IsMarked survey.replicas survey.newest
  pub others_on : (o : Other) → Contains survey.others o → Contains site.lines o.line × (has_drive up o.line.at.drive ≡ true)

-- Where the drives have these blocks: just those replicas are found, on drives that are up and on which no call failed; none is told of that isn't found; and the newest table is there. Each
-- other place is one, and each place that a look comes to is told of.
pub record IsSurveyOf (g : Geometry) (site : Site) (up : Drives) (content : Contents) (survey : Survey) : Type 0 where
  pub each : (r : Replica) → Contains survey.replicas r → IsFoundIn g site content r
  pub all : (r : Replica) → IsFoundIn g site content r → answers_in up survey.failed r.line.at.drive ≡ true → Contains survey.replicas r
  pub table : HasTable g content survey.replicas survey.newest
  pub others : (o : Other) → Contains survey.others o → IsOtherIn g site content o
  pub told : (line : SliceLine) (number : ℕ) (at : PlaceAt) → Contains site.lines line → answers_in up survey.failed line.at.drive ≡ true → ComesTo g site line number (content line.at.drive.0) at → IsNumberTold survey.replicas survey.others line number

-- a drive is told to have failed where just one call on it did, and else none did
abbrev pub HaveFailed : {S : Type 0} → Ghosts S → S → S → Drives → Type 0
HaveFailed shelf old new failed =
    (drive : DriveNo) → MatchBool (has_drive failed drive) (DriveFailures shelf old new drive.0).some (DriveFailures shelf old new drive.0).none

-- each drive of the one set is one of the other
abbrev pub AreWithin : Drives → Drives → Type 0
AreWithin some all = (drive : DriveNo) → has_drive some drive ≡ true → has_drive all drive ≡ true

-- the same of a longer stretch; a drive that had failed has; and one that has now had then, or is up
pub record FailedOn {S : Type 0} (shelf : Ghosts S) (old new : S) (up before now : Drives) : Type 0 where
  pub have : (start : S) → HaveFailed shelf start old before → HaveFailed shelf start new now
  pub later : (drive : DriveNo) → has_drive now drive ≡ false → has_drive before drive ≡ false
  pub within : AreWithin before up → AreWithin now up

abbrev pub KeptToo : {S : Type 0} → Ghosts S → S → S → List DriveNo → Type 0
KeptToo {S} shelf old new drives = (start : S) → KeptAmong shelf start old drives → KeptAmong shelf start new drives

-- one more slice was looked at, or its drive isn't up, or a call on it had failed
abbrev pub ListsLine : Site → Drives → SliceLine → Finds → Finds → Type 0
ListsLine site up line old new =
    (lines rest : List SliceLine) → site.lines ≡ lines ++ line ∷ rest → AreListed site up lines line 0 old → AreListed site up (lines ++ line ∷ []) line 0 new

abbrev pub LooksAtLine : Geometry → Site → Drives → SliceLine → Contents → Drives → Finds → Drives → Finds → Type 0
LooksAtLine g site up line content before old now new =
    (lines : List SliceLine) → AreFound g site (answers_in up before) lines line 0 content old → AreFound g site (answers_in up now) (lines ++ line ∷ []) line 0 content new
