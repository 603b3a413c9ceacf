-- How the drives stand with the log of a database, and how it goes on.
use Rattle.std.specs.Prelude.{ℕ, List, [], Option}
use Rattle.mdv_store_law.specs.Log.{Adds, ChangesAlone, IsLog}
use Rattle.mdv_store_law.specs.Machine as machine
use Rattle.mdv_standing.specs.Below.{Change, Core, Everywhere, Geometry, Identity, Image, Log, MayHappen, Site, Table, Tale, log_after}
use Rattle.mdv_standing.specs.Worlds.{IsWorld}

-- whatever a crash leaves shows a world of the log
abbrev pub Covers : (List ℕ → Table → Type 0) → Site → Identity → Log → Tale → Type 0
Covers Spells site identity log = Everywhere (λ image. (w : Core) × IsWorld Spells site identity log w image)

-- and one of which this is known
abbrev pub CoversWith : (List ℕ → Table → Type 0) → Site → Identity → (Image → Core → Type 0) → Log → Tale → Type 0
CoversWith Spells site identity Known log = Everywhere (λ image. (w : Core) × IsWorld Spells site identity log w image × Known image w)

-- the drives stand with the log
pub record Stands (Spells : List ℕ → Table → Type 0) (g : Geometry) (site : Site) (identity : Identity) (log : Log) (m : Tale) : Type 0 where
  pub is_log : IsLog g log
  pub covers : Covers Spells site identity log m

-- A log that the drives stood with, and of which so much was known, goes on, with nothing told and only such changes begun as are asked, to
-- one that they stand with, of which more is known.
abbrev pub GoesFrom : (List ℕ → Table → Type 0) → Geometry → Site → Identity → (Log → Type 0) → List (Option Change) → (Log → Type 0) → Tale → Tale → Type 0
GoesFrom Spells g site identity Known asks After t m =
    (log : Log) → Covers Spells site identity log t → Known log
    → machine.Goes log_after (MayHappen g) (Adds ChangesAlone asks []) (λ next. Covers Spells site identity next m) (λ es next. After next) log
