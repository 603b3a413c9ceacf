-- How a database's worlds and its log go on while a change of its table begins to be written.
use Rattle.std.specs.Prelude.{◌≡◌, ◌⊎◌, ℕ, ◌+◌, ◌<◌, ◌^◌, true, false, List, [], ◌∷◌, Option, Contains, IsTrue}
use Rattle.mdv_store_law.specs.Log.{IsMade}
use Rattle.mdv_standing.specs.Below.{Change, Core, Geometry, Identity, Image, IsOwnAt, LeftClosed, Lists, Log, Mark, MayHappen, NextLists, One, Place, Two, Reads, Site, Slotted, Spot, Table, Version, WritesLog, is_named, last_of, log_after}
use Rattle.mdv_config.specs.Lists.{beside}
use Rattle.mdv_standing.specs.Listed.{HasPlace}
use Rattle.mdv_standing.specs.Matching.{spots_of}
use Rattle.mdv_standing.specs.Worlds.{IsReadyWith, IsTaking, IsWorld, Turned}

abbrev pub next_mark : Version → Mark
next_mark v = record v.mark { count = v.mark.count + 1 }

-- the lists of places stay, or their change is over
abbrev pub MayFollow : Lists → Lists → Type 0
MayFollow was next = (next ≡ was) ⊎ (next ≡ One (last_of was))

-- a second list comes beside the only one, and the image has those of its places that this one lacks
pub record IsSecond (Spells : List ℕ → Table → Type 0) (site : Site) (identity : Identity) (was next : Lists) (image : Image) : Type 0 where
  pub old : List Place
  pub new : List Place
  pub one : was ≡ One old
  pub two : next ≡ Two old new
  pub have : (place : Place) → Contains (beside old new) place → HasPlace Spells site identity image place

-- the lists may follow those of this version, or a second one comes, whose write was answered
abbrev pub MayListNext : (List ℕ → Table → Type 0) → Site → Identity → Version → Table → Image → Type 0
MayListNext Spells site identity v next image = MayFollow v.table.plan.lists next.plan.lists ⊎ ((v.is_written ≡ true) × IsSecond Spells site identity v.table.plan.lists next.plan.lists image)

-- they change only once the write of that version was answered
abbrev pub MayChangeLists : Version → Table → Type 0
MayChangeLists v next = (next.plan.lists ≡ v.table.plan.lists) ⊎ (v.is_written ≡ true)

-- The next table is to be written, with lists that may come behind those of the newest one, first at this place. Nothing is in work.
pub record IsCommit (Spells : List ℕ → Table → Type 0) (site : Site) (identity : Identity) (log : Log) (w : Core) (image : Image) (p : Spot) (v : Version) (table : Table) (took : List Spot) : Type 0 where
  pub world : IsWorld Spells site identity log w image
  pub own : IsOwnAt Spells site identity image p
  pub older : List Version
  pub newest : log.family ≡ v ∷ older
  pub named : IsTrue (is_named (spots_of site table.plan.lists) p)
  pub small : v.mark.count + 1 < 2 ^ 63
  pub follows : MayListNext Spells site identity v table image
  pub known : IsReadyWith took w

-- From then on slots take the table, and it is answered, as a boot's does.
pub record CommitsGo : Type 0 where
  -- what a change makes of the newest version, or that one again, may be written, or that one with its change of places over
  pub may : (read : List ℕ → Option Table) (g : Geometry) (site : Site) (identity : Identity) (log : Log) (w : Core) (image : Image) (p : Spot) (v : Version) (asked : Option Change) (table : Table) (took : List Spot)
      → IsCommit (Reads read) site identity log w image p v table took → IsMade g asked v.table table → MayChangeLists v table → MayHappen g log (WritesLog (next_mark v) asked v.changes table)
  -- and so it begins to be
  pub begins : (read : List ℕ → Option Table) (site : Site) (identity : Identity) (log : Log) (w : Core) (image : Image) (p : Spot) (v : Version) (asked : Option Change) (table : Table) (took : List Spot)
      → IsCommit (Reads read) site identity log w image p v table took
      → Turned (Reads read) site identity (log_after log (WritesLog (next_mark v) asked v.changes table)) w image (λ es. es ≡ NextLists (spots_of site table.plan.lists) ∷ (Slotted p LeftClosed ∷ [])) (IsTaking false (next_mark v) [])
