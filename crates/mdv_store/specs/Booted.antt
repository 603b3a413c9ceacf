-- What a boot answers: which drives came up, what was read of them, and what came of that.
use Rattle.std.specs.Prelude.{◌≡◌, ◌⊎◌, ◌+◌, ◌*◌, ℕ, Bool, true, false, length, Contains, Some}
use Rattle.std.specs.Bool.{MatchBool}
use Rattle.mdv_shelf.specs.Drives.{KeptAmong}
use Rattle.mdv_shelf.specs.Shelves.{AtEachTale, AtEnd, DriveFailures}
use Rattle.mdv_survey.specs.Survey.{IsSurvey, IsSurveyOf}
use Rattle.mdv_survey.specs.declared.replica.Survey.{Survey}
use Rattle.mdv_store.specs.Below.{DriveNo, Drives, Geometry, Ghosts, Site, Table, Tale, has_drive, last, places_of}
use Rattle.mdv_look.specs.Bringing.{AreUpBy, BringingEnds, IsBringingCounted}
use Rattle.mdv_look.specs.Looking.{LooksBy, reads_by}
use Rattle.mdv_look.specs.Quiet.{WritesNothing}
use Rattle.mdv_store.specs.Letters.{AreLettersOf, places_seen}
use Rattle.mdv_store.specs.Seats.{AreLaid}
use Rattle.mdv_store.specs.declared.booting.Booted.{Booted}
use Rattle.mdv_base.specs.DriveSet.{no_drives}
use Rattle.mdv_survey.specs.Counts.{AreLinesBy, MadeFew, MadeReads}
use Rattle.mdv_store.specs.Boot.{IfAdopted, IsEndBy, IsOnce, is_memory}
use Rattle.mdv_store.specs.Booting.{has_written}
use Rattle.mdv_store.specs.Progress.{Progress}
use Rattle.mdv_store.specs.Taking.{LeftHold, Rewrites}
use Rattle.mdv_store.specs.declared.booting.Hand.{Hand}

-- How far a boot had come as its drives were up: each was read and synced, drive by drive, and the syncs of those that are up were all that was done.
pub record WasBroughtUp {S : Type 0} (shelf : Ghosts S) (old new : S) (site : Site) (answer : Booted) : Type 0 where
  pub ready : S
  pub up : AreUpBy (DriveFailures shelf old ready) site.drives answer.up
  pub ends : AtEnd shelf (BringingEnds answer.up site.drives) old ready
  pub counted : IsBringingCounted shelf old ready site.drives answer.up
  pub before : KeptAmong shelf old ready site.drives
  pub behind : KeptAmong shelf ready new site.drives

-- What was read in the last look, of the drives that were up and on which no call had failed, and of no other one: what the blocks held as the boot began. On each
-- other drive a call had failed before that look; in it each head and each body of an open slot was read once. The looks began as the drives were up, one behind another, and in each but the last a read had failed
-- (`LooksBy`). Till their end reads and syncs were all that was done; nothing was written, nor was a write begun that took nothing. Where nothing is adopted nothing was done behind it.
pub record IsReadAt {S : Type 0} (shelf : Ghosts S) (old new : S) (g : Geometry) (site : Site) (answer : Booted) (survey : Survey) : Type 0 where
  pub begun : S
  pub looked : S
  pub unwritten : AtEachTale shelf WritesNothing old looked
  pub before : KeptAmong shelf old looked site.drives
  pub behind : KeptAmong shelf looked new site.drives
  pub calm : Drives
  pub brought : WasBroughtUp shelf old new site answer
  pub looks : LooksBy shelf g site answer.up brought.ready calm begun
  pub reads : MadeFew shelf old looked (2 * length site.drives + reads_by site answer.up calm)
  pub exact : answer.clean ≡ true → (t : Tale) → shelf.tale old ≡ Some t → (n : ℕ) × MadeReads shelf old looked (2 * length site.drives + n) × AreLinesBy g site answer.up no_drives (last t) site.lines n
  pub up : (drive : DriveNo) → has_drive calm drive ≡ true → has_drive answer.up drive ≡ true
  pub failed : (drive : DriveNo) → Contains site.drives drive → has_drive calm drive ≡ false → (DriveFailures shelf old begun drive.0).some × (DriveFailures shelf old new drive.0).some
  pub once : (t : Tale) → shelf.tale old ≡ Some t → (n : ℕ) × MadeReads shelf begun looked n × AreLinesBy g site calm no_drives (last t) site.lines n
  pub still : has_written answer.end ≡ false → new ≡ looked
  pub answered : (drive : DriveNo) → has_drive calm drive ≡ true → (DriveFailures shelf old looked drive.0).none
  pub survey_is : IsSurvey site calm survey
  pub of : (t : Tale) → shelf.tale old ≡ Some t → IsSurveyOf g site calm (last t) survey
  pub none : (drive : DriveNo) → has_drive calm drive ≡ true → has_drive survey.failed drive ≡ false

-- What a boot wrote behind its last look, by just so many calls if it is clean; and what the places that are left hold in the end, whatever a crash leaves.
pub record WroteFor {S : Type 0} (shelf : Ghosts S) (old looked new : S) (g : Geometry) (site : Site) (clean : Bool) (hand : Hand) (table : Table) (progress : Progress) : Type 0 where
  pub rewrites : Rewrites shelf looked new site.key hand table clean progress
  pub shows : AtEnd shelf (λ t u. LeftHold g site.key hand table progress u) old new

-- A boot's answer: which drives came up, and its end and the letters of the listed places by what was read; on each drive of the site no call failed, or just one did, if memory wasn't wanting; it is clean where
-- none failed on any of them, and else one did. What is open then has letters of just its listed places.
pub record IsBooted {S : Type 0} (shelf : Ghosts S) (old new : S) (g : Geometry) (site : Site) (answer : Booted) : Type 0 where
  pub brought : WasBroughtUp shelf old new site answer
  pub ended : (is_memory answer.end ≡ true) ⊎ ((survey : Survey) × (at : IsReadAt shelf old new g site answer survey) × IsEndBy (DriveFailures shelf old new) (WroteFor shelf old at.looked new g site answer.clean) site survey answer.end × AreLettersOf site survey at.calm answer.letters)
  pub once : (is_memory answer.end ≡ true) ⊎ ((drive : DriveNo) → Contains site.drives drive → IsOnce (DriveFailures shelf old new drive.0))
  pub clean : MatchBool answer.clean
      ((is_memory answer.end ≡ false) × ((drive : DriveNo) → Contains site.drives drive → (DriveFailures shelf old new drive.0).none))
      ((is_memory answer.end ≡ true) ⊎ ((drive : DriveNo) × Contains site.drives drive × (DriveFailures shelf old new drive.0).some))
  pub laid : IfAdopted answer.end (λ o. AreLaid (shelf.sizes old) o.seats)
  pub lettered : IfAdopted answer.end (λ o. places_seen answer.letters ≡ places_of o.table.plan.lists)
