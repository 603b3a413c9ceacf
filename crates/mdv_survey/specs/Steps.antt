-- How a survey goes from slice to slice.
use Rattle.std.specs.Prelude.{◌≡◌, false, List, [], ◌∷◌}
use Rattle.mdv_survey.specs.Below.{DriveNo, Drives, Geometry, Ghosts, Site, SliceLine, has_drive, last}
use Rattle.mdv_survey.specs.Counts.{IsCounted, IsLineBy, ReadOn}
use Rattle.mdv_survey.specs.Survey.{AreWithin, FailedOn, HaveFailed, answers_in}

-- One slice was looked at: no call failed but on its drive, and there none, or the last one; where none did, there were just those that the slice takes. Where the drive isn't up, or one on it had failed before, there was no call.
pub record IsLineLook {S : Type 0} (shelf : Ghosts S) (g : Geometry) (site : Site) (up : Drives) (line : SliceLine) (old new : S) (before now : Drives) : Type 0 where
  pub read : ReadOn shelf old new line.at.drive.0
  pub passed : answers_in up before line.at.drive ≡ false → (new ≡ old) × (now ≡ before)
  pub failed : FailedOn shelf old new up before now
  pub counted : IsCounted shelf old new 765 (λ t n. IsLineBy g site up now (last t) line n)

-- so were these slices, one after another, and there was no call in between
abbrev pub WentAlong : {S : Type 0} → Ghosts S → Geometry → Site → Drives → List SliceLine → S → S → Drives → Drives → Type 0
WentAlong shelf g site up [] old new before now = (new ≡ old) × (now ≡ before)
WentAlong {S} shelf g site up (line ∷ lines) old new before now = (mid : S) × (between : Drives) × IsLineLook shelf g site up line old mid before between × WentAlong shelf g site up lines mid new between now

-- A look at all slices on the drives that are up: just one call failed on each drive that is told, and on each other one none.
pub record WasOneLook {S : Type 0} (shelf : Ghosts S) (old new : S) (g : Geometry) (site : Site) (up failed : Drives) : Type 0 where
  pub same : shelf.tale new ≡ shelf.tale old
  pub have : HaveFailed shelf old new failed
  pub within : AreWithin failed up
  pub begun : Drives
  pub clear : (drive : DriveNo) → has_drive begun drive ≡ false
  pub steps : WentAlong shelf g site up site.lines old new begun failed
