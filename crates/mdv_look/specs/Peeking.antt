-- What a boot would take, by what the drives of a site hold.
use Rattle.std.specs.Prelude.{◌≡◌, ◌⊎◌, ℕ, true, false, List, Contains, Some, Result, Ok, Err}
use Rattle.mdv_base.specs.DriveSet.{no_drives}
use Rattle.mdv_survey.specs.Choice.{IsChoice}
use Rattle.mdv_survey.specs.Counts.{AreLinesBy, MadeFew, MadeReads}
use Rattle.mdv_survey.specs.declared.choosing.Choice.TheVariants as chosen
use Rattle.mdv_survey.specs.declared.replica.Newest.{Newest}
use Rattle.mdv_survey.specs.declared.replica.Survey.{Survey}
use Rattle.mdv_plan.specs.declared.table.Table.{Table}
use Rattle.mdv_look.specs.Below.{DriveNo, Drives, Geometry, Ghosts, Site, Tale, has_drive, last}
use Rattle.mdv_look.specs.Looking.{AreAllCalm, IsLookedAt, most_reads, reads_by}
use Rattle.mdv_look.specs.declared.peeking.PeekRefusal.{PeekRefusal}
use Rattle.mdv_look.specs.declared.peeking.PeekRefusal.TheVariants as refused
use Rattle.mdv_look.specs.declared.peeking.Peeked.{Peeked}

-- the set has these drives, and no other one
pub record AreAllOf (drives : List DriveNo) (set : Drives) : Type 0 where
  pub each : (drive : DriveNo) → Contains drives drive → has_drive set drive ≡ true
  pub only : (drive : DriveNo) → has_drive set drive ≡ true → Contains drives drive

-- the votes take the newest table
abbrev pub WasChosen : Survey → Type 0
WasChosen survey = (number : ℕ) × IsChoice survey (chosen.Newest number)

-- so they do, and it is this one
pub record IsNewestTaken (survey : Survey) (table : Table) : Type 0 where
  pub was_chosen : WasChosen survey
  pub newest : Newest
  pub newest_is : survey.newest ≡ Some newest
  pub table_is : table ≡ newest.table

-- the answer is by what was found: the table that a boot takes, or why it takes none; memory may be wanting whatever it was
abbrev pub IsPeekBy : Survey → Result Table PeekRefusal → Type 0
IsPeekBy survey (Ok table) = IsNewestTaken survey table
IsPeekBy survey (Err refused.Empty) = IsChoice survey chosen.Empty
IsPeekBy survey (Err (refused.NoQuorum readable needed)) = IsChoice survey (chosen.NoQuorum readable needed)
IsPeekBy survey (Err (refused.TwoDatabases a b)) = IsChoice survey (chosen.TwoDatabases a b)
IsPeekBy survey (Err refused.Memory) = Unit {0}

-- All drives of the site were looked at, as a boot looks at those that are up: the answer is by what the ones that answered every read hold, and just these are told.
-- Where all did, each head and each body of an open slot was read once; else there are no more reads than so many looks could take as there are drives of which a read failed, and one.
pub record IsPeekOf {S : Type 0} (shelf : Ghosts S) (old new : S) (g : Geometry) (site : Site) (all : Drives) (peeked : Peeked) : Type 0 where
  pub survey : Survey
  pub at : IsLookedAt shelf old new g site all (record { survey = survey; calm = peeked.calm })
  pub by : IsPeekBy survey peeked.answer
  pub some : MadeFew shelf old new (reads_by site all peeked.calm)
  pub once : AreAllCalm site all peeked.calm → (t : Tale) → shelf.tale old ≡ Some t → (n : ℕ) × MadeReads shelf old new n × AreLinesBy g site all no_drives (last t) site.lines n

-- no drive is told of, since memory was wanting
pub record WasWanting (peeked : Peeked) : Type 0 where
  pub answer_is : peeked.answer ≡ Err refused.Memory
  pub none : (drive : DriveNo) → has_drive peeked.calm drive ≡ false

-- So it was, or memory was wanting. There are no more reads than so many looks could take as there are drives, and one.
pub record IsPeeked {S : Type 0} (shelf : Ghosts S) (old new : S) (g : Geometry) (site : Site) (peeked : Peeked) : Type 0 where
  pub all : Drives
  pub are : AreAllOf site.drives all
  pub few : MadeFew shelf old new (most_reads site)
  pub ended : WasWanting peeked ⊎ IsPeekOf shelf old new g site all peeked
