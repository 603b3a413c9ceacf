-- What holds of every two surveys.
use Rattle.std.specs.Prelude.{◌≡◌, ℕ, true, false, List, Contains}
use Rattle.mdv_base.specs.declared.name.Key.{Key}
use Rattle.mdv_name.specs.Sound.{IsSound}
use Rattle.mdv_shown.specs.Sites.{site_of}
use Rattle.mdv_survey.specs.Below.{DriveNo, Drives, Geometry, Place, Site, SliceLine, has_drive}
use Rattle.mdv_survey.specs.Counts.{AreLinesBy}
use Rattle.mdv_survey.specs.Letters.{letters_at}
use Rattle.mdv_survey.specs.Replica.{Contents}
use Rattle.mdv_survey.specs.Survey.{IsSurvey, IsSurveyOf}
use Rattle.mdv_survey.specs.declared.replica.Survey.{Survey}

-- a survey of drives that have these blocks and all answered
pub record IsCalmSurvey (g : Geometry) (site : Site) (content : Contents) (up : Drives) (survey : Survey) : Type 0 where
  pub survey_is : IsSurvey site up survey
  pub of : IsSurveyOf g site up content survey
  pub none : (drive : DriveNo) → has_drive up drive ≡ true → has_drive survey.failed drive ≡ false

-- the same drives with slices of the site
abbrev pub AreSameDrives : Site → Drives → Drives → Type 0
AreSameDrives site up also = (line : SliceLine) → Contains site.lines line → has_drive up line.at.drive ≡ has_drive also line.at.drive

-- of a sound table of drives: two surveys of the same blocks, whose drives answered, tell the same letters of each place
abbrev pub LettersAreOne : Type 0
LettersAreOne =
    (g : Geometry) (key : Key) (content : Contents) (up also : Drives) (a b : Survey) → IsSound g → AreSameDrives (site_of g key) up also
    → IsCalmSurvey g (site_of g key) content up a → IsCalmSurvey g (site_of g key) content also b
    → (place : Place) → letters_at (site_of g key) a.replicas a.others up place ≡ letters_at (site_of g key) b.replicas b.others also place

-- on the drives of these slices that are up no call failed
abbrev pub AreAnswered : Drives → Drives → List SliceLine → Type 0
AreAnswered up failed lines = (line : SliceLine) → Contains lines line → has_drive up line.at.drive ≡ true → has_drive failed line.at.drive ≡ false

-- how many calls the looks at these slices take is one number, by the blocks alone
abbrev pub CountsAreOne : Type 0
CountsAreOne =
    (g : Geometry) (site : Site) (up failed : Drives) (content : Contents) (lines : List SliceLine) → AreAnswered up failed lines
    → (n m : ℕ) → AreLinesBy g site up failed content lines n → AreLinesBy g site up failed content lines m → n ≡ m
