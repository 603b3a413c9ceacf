-- What the look of a boot finds, on the drives that answer every read.
use Rattle.std.specs.Prelude.{◌≡◌, ◌*◌, ◌+◌, ◌&&◌, ℕ, true, false, not, Contains, List, length, count_by, Some, Result, IfOk}
use Rattle.std.specs.Bool.{MatchBool}
use Rattle.mdv_base.specs.DriveSet.{no_drives}
use Rattle.mdv_shelf.specs.Shelves.{DriveFailures}
use Rattle.mdv_survey.specs.Counts.{AreLinesBy, MadeFew, MadeReads}
use Rattle.mdv_survey.specs.Steps.{WasOneLook}
use Rattle.mdv_survey.specs.Survey.{IsSurvey, IsSurveyOf, answers_in}
use Rattle.mdv_look.specs.Below.{DriveNo, Drives, Geometry, Ghosts, Site, Tale, has_drive, last}
use Rattle.mdv_look.specs.declared.looking.Looked.{Looked}

-- Of the drives those that are up and on which no read failed are left.
pub record AreLeftOf (drives : List DriveNo) (up failed left : Drives) : Type 0 where
  pub each : (drive : DriveNo) → Contains drives drive → has_drive left drive ≡ answers_in up failed drive
  pub only : (drive : DriveNo) → has_drive left drive ≡ true → Contains drives drive

-- a read failed on one of the drives that are up
pub record HasFailedOn (drives : List DriveNo) (up failed : Drives) : Type 0 where
  pub drive : DriveNo
  pub one_of : Contains drives drive
  pub is_up : has_drive up drive ≡ true
  pub has : has_drive failed drive ≡ true

-- A drive of these that is up answered every read where no call on it failed, and else just one did; on one that isn't up none did; no other drive is told to.
pub record AreCalmBy {S : Type 0} (shelf : Ghosts S) (old new : S) (drives : List DriveNo) (up calm : Drives) : Type 0 where
  pub each : (drive : DriveNo) → Contains drives drive → has_drive up drive ≡ true → MatchBool (has_drive calm drive) (DriveFailures shelf old new drive.0).none (DriveFailures shelf old new drive.0).some
  pub down : (drive : DriveNo) → has_drive up drive ≡ false → (DriveFailures shelf old new drive.0).none
  pub is_up : (drive : DriveNo) → has_drive calm drive ≡ true → has_drive up drive ≡ true
  pub only : (drive : DriveNo) → has_drive calm drive ≡ true → Contains drives drive

-- The looks before the last one, of which each began as the one before it ended: in each a read failed, and the next one was at the drives that were left. The last one is at these, and begins at the end of them.
pub data LooksBy {S : Type 0} (shelf : Ghosts S) (g : Geometry) (site : Site) : Drives → S → Drives → S → Type 0 where
  at_last : (up these : Drives) (old : S) → ((drive : DriveNo) → Contains site.drives drive → has_drive these drive ≡ has_drive up drive) → LooksBy shelf g site up old these old
  again : (up failed left these : Drives) (old mid begun : S) → WasOneLook shelf old mid g site up failed → HasFailedOn site.drives up failed → AreLeftOf site.drives up failed left
      → LooksBy shelf g site left mid these begun → LooksBy shelf g site up old these begun

-- The last of the looks: by its beginning a call had failed on each drive that is up and didn't answer every read, and till then nothing was done but looks in which one did; then each head
-- and each body of an open slot was read once.
pub record WasLastLook {S : Type 0} (shelf : Ghosts S) (old new : S) (g : Geometry) (site : Site) (up calm : Drives) : Type 0 where
  pub begun : S
  pub before : AreCalmBy shelf old begun site.drives up calm
  pub looks : LooksBy shelf g site up old calm begun
  pub once : (t : Tale) → shelf.tale old ≡ Some t → (n : ℕ) × MadeReads shelf begun new n × AreLinesBy g site calm no_drives (last t) site.lines n

-- What was read is told of the drives that answered alone: each replica there, and the newest of their tables. Nothing was written.
pub record IsLookedAt {S : Type 0} (shelf : Ghosts S) (old new : S) (g : Geometry) (site : Site) (up : Drives) (looked : Looked) : Type 0 where
  pub calm : AreCalmBy shelf old new site.drives up looked.calm
  pub last_look : WasLastLook shelf old new g site up looked.calm
  pub none : (drive : DriveNo) → has_drive looked.calm drive ≡ true → has_drive looked.survey.failed drive ≡ false
  pub survey : IsSurvey site looked.calm looked.survey
  pub of : (t : Tale) → shelf.tale old ≡ Some t → IsSurveyOf g site looked.calm (last t) looked.survey

pub record IsLooked {S E : Type 0} (shelf : Ghosts S) (old new : S) (g : Geometry) (site : Site) (up : Drives) (result : Result Looked E) : Type 0 where
  pub same : shelf.tale new ≡ shelf.tale old
  pub found : IfOk result (IsLookedAt shelf old new g site up)

-- the drives that are up answered every read
abbrev pub AreAllCalm : Site → (up calm : Drives) → Type 0
AreAllCalm site up calm = (drive : DriveNo) → Contains site.drives drive → has_drive up drive ≡ true → has_drive calm drive ≡ true

-- at most so many reads of each slice, for as many looks as there are drives, and one
abbrev pub most_reads : Site → ℕ
most_reads site = (1 + length site.drives) * (765 * length site.lines)

-- at most so many, for as many looks as there are drives that are up and didn't answer every read, and one
abbrev pub reads_by : Site → (up calm : Drives) → ℕ
reads_by site up calm = (1 + count_by (λ (drive : DriveNo). has_drive up drive && not (has_drive calm drive)) site.drives) * (765 * length site.lines)

-- Where no read failed each head and each body of an open slot was read once. A look at all slices takes 765 reads at most of each, and there are no more
-- reads than so many looks could take as there are drives of which a read failed, and one; where memory was wanting, as there are drives that are up, and one.
pub record IsLookCounted {S E : Type 0} (shelf : Ghosts S) (old new : S) (g : Geometry) (site : Site) (up : Drives) (result : Result Looked E) : Type 0 where
  pub few : MadeFew shelf old new ((1 + count_by (has_drive up) site.drives) * (765 * length site.lines))
  pub some : IfOk result (λ looked. MadeFew shelf old new (reads_by site up looked.calm))
  pub once : IfOk result (λ looked. AreAllCalm site up looked.calm → (t : Tale) → shelf.tale old ≡ Some t → (n : ℕ) × MadeReads shelf old new n × AreLinesBy g site up no_drives (last t) site.lines n)
