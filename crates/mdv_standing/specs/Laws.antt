-- Laws of standing: over crashes, on new drives, beside what is done elsewhere, and over what a boot finds.
use Rattle.std.specs.Prelude.{◌≡◌, ℕ, ◌+◌, ◌<◌, ◌^◌, false, List, Option, Some, None, All, Contains, IsTrue}
use Rattle.mdv_store_law.specs.Laws.{restarted}
use Rattle.mdv_store_law.specs.Log.{AreMade, Extends, IsLog, IsNotOlder, empty_log}
use Rattle.mdv_standing.specs.Below.{Area, AreApart, Change, Core, Geometry, HaveRead, Head, Identity, Image, IsChosen, IsImage, IsOwn, IsSite, KeptOutside, Lives, Log, Master, Reads, Seen, Site, SliceLine, Slot, Table, Tale, Version, covers, greatest_seen, is_in, is_majority, shows, site_area, spots_seen}
use Rattle.mdv_standing.specs.Matching.{HasStaleVote, lists_of, tables_of}
use Rattle.mdv_standing.specs.Worlds.{IsWorld}
use Rattle.mdv_standing.specs.Standing.{Covers, Stands}

-- what a crash leaves of drives that stand with a log stands with it
abbrev pub CrashesStand : Type 0
CrashesStand =
    (read : List ℕ → Option Table) (g : Geometry) (site : Site) (identity : Identity) (log : Log) (m : Tale) (image : Image) (told : List ℕ)
    → Stands (Reads read) g site identity log m → IsImage m image → Stands (Reads read) g site identity log (restarted image told)

-- no replica of the database is found, one that shows a table or not
abbrev pub HasNone : (List ℕ → Table → Type 0) → Site → Identity → Image → Type 0
HasNone Spells site identity image = (line : SliceLine) (k : ℕ) (first : Master) (head : Head) → IsOwn Spells site identity line k image first head → ⊥

-- drives that have none stand with the empty log, whatever else they hold
abbrev pub NewDrivesStand : Type 0
NewDrivesStand =
    (read : List ℕ → Option Table) (g : Geometry) (site : Site) (identity : Identity) (image : Image) (told : List ℕ) → HasNone (Reads read) site identity image
    → Stands (Reads read) g site identity empty_log (restarted image told)

-- what is done outside the slices of the site leaves the standing
abbrev pub Frames : Type 0
Frames =
    (read : List ℕ → Option Table) (site : Site) (identity : Identity) (area : Area) (log : Log) (t m : Tale) → AreApart area (site_area site) → KeptOutside area t m
    → Covers (Reads read) site identity log t → Covers (Reads read) site identity log m

-- the version is what its changes made, has all that was told, isn't older than any whose write was answered, and the number is above all
pub record FoundHolds (g : Geometry) (log : Log) (v : Version) (number : ℕ) : Type 0 where
  pub made : AreMade g v.changes v.table
  pub told : (told : List Change) → log.acknowledged ≡ Some told → Extends v.changes told
  pub not_older : IsNotOlder v.mark log.family
  pub below : All (λ x. x.mark.boot < number) log.family

-- the newest table of what was read, where more than half of each of its lists was, and no stale vote for it, and one more may be drawn
abbrev pub FindsHold : Type 0
FindsHold =
    (read : List ℕ → Option Table) (g : Geometry) (site : Site) (identity : Identity) (log : Log) (w : Core) (image : Image) (seen : List Seen) (s : Seen) (slot : Slot) (v : Version)
    → IsSite site → IsLog g log → IsWorld (Reads read) site identity log w image → HaveRead (Reads read) site identity (tables_of log.family) w image seen → IsChosen seen s slot v.mark
    → Contains log.family v → IsTrue (covers (is_majority (is_in (spots_seen seen))) (lists_of site v)) → (HasStaleVote site log seen v.mark → ⊥) → greatest_seen seen + 1 < 2 ^ 63 → FoundHolds g log v (greatest_seen seen + 1)

-- no replica of the database shows a table
abbrev pub ShowsNoTable : (List ℕ → Table → Type 0) → Site → Identity → Image → Type 0
ShowsNoTable Spells site identity image = (line : SliceLine) (k : ℕ) (first : Master) (head : Head) → IsOwn Spells site identity line k image first head → shows head ≡ false

-- where none does, and the database wasn't about to be deleted, no write was answered, and nothing was told
pub record NothingHolds : Type 0 where
  pub answered : (read : List ℕ → Option Table) (site : Site) (identity : Identity) (log : Log) (w : Core) (image : Image) → IsWorld (Reads read) site identity log w image
      → log.fate ≡ Lives → ShowsNoTable (Reads read) site identity image → All (λ x. x.is_written ≡ false) log.family
  pub told : (read : List ℕ → Option Table) (g : Geometry) (site : Site) (identity : Identity) (log : Log) (w : Core) (image : Image) → IsLog g log → IsWorld (Reads read) site identity log w image
      → log.fate ≡ Lives → ShowsNoTable (Reads read) site identity image → log.acknowledged ≡ None
