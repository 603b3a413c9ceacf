-- What is written for one database is nothing to the others, or takes from them what lay there.
use Rattle.std.specs.Prelude.{◌≡◌, ◌⊎◌, ℕ, false, ◌+◌, ◌*◌, ◌<◌, ◌≤◌, ◌^◌, Contains, List, ◌∷◌, Option}
use Rattle.mdv_name.specs.Sound.{IsSound}
use Rattle.mdv_shown.specs.Found.{Counts, IsFound}
use Rattle.mdv_shown.specs.Sites.{site_of}
use Rattle.mdv_shown.specs.Wipes.{wiped_all}
use Rattle.mdv_standing.specs.Below.{IsOwn, Lives, Site, Version, is_named, spot_on, Core, Crash, Event, FirstIs, Geometry, HasFirst, Head, Identity, Image, IsFormat, IsTable, Key, Log, Mark, Master, MayClaim, MayFill, MayFormat, MayWipe, Reads, SliceLine, Slot, Spot, Table, master_on, place_on}
use Rattle.mdv_store_law.specs.Log.{IsNotOlder}
use Rattle.mdv_standing.specs.Laws.{ShowsNoTable}
use Rattle.mdv_standing.specs.Matching.{lists_of}
use Rattle.mdv_standing.specs.Worlds.{IsWorld, Turned}

-- another database: it has another key or another identity
abbrev pub IsAnother : Key → Identity → Key → Identity → Type 0
IsAnother key identity other its = other ≡ key → its ≡ identity → ⊥

-- a replica that a boot of its own key finds, of another database than this one
pub record IsBeside (Spells : List ℕ → Table → Type 0) (g : Geometry) (key : Key) (identity : Identity) (other : Key) (image : Image) (line : SliceLine) (k : ℕ) (first : Master) (head : Head) : Type 0 where
  pub sound : IsSound g
  pub found : IsFound Spells (site_of g other) line k (image line.at.drive.0) first head
  pub another : IsAnother key identity other head.master.identity

-- nothing is found on the slice from this number on, by whatever key, but replicas of the database with that identity
abbrev pub IsAlone : (List ℕ → Table → Type 0) → Geometry → Identity → Image → SliceLine → ℕ → Type 0
IsAlone Spells g its image line k = (key : Key) (j : ℕ) (first : Master) (head : Head) → k ≤ j → IsFound Spells (site_of g key) line j (image line.at.drive.0) first head → head.master.identity ≡ its

-- none of the database's replicas that are found on the slice is at a place that a table lists which a boot may find
abbrev pub IsLoose : (List ℕ → Table → Type 0) → Site → Identity → Log → Image → SliceLine → Type 0
IsLoose Spells site identity log image line =
    (v : Version) → Contains log.family v → IsNotOlder v.mark log.family → (j : ℕ) (first : Master) (head : Head) → IsOwn Spells site identity line j image first head → is_named (lists_of site v) (spot_on line first.blocks j) ≡ false

-- What lies on the slice may be taken from it: it wasn't about to be deleted and shows no table, as a creation leaves it that failed, or nothing that counts lies there.
abbrev pub MayLose : (List ℕ → Table → Type 0) → Geometry → Key → Identity → Log → Image → SliceLine → Type 0
MayLose Spells g key identity log image line = ((log.fate ≡ Lives) × ShowsNoTable Spells (site_of g key) identity image) ⊎ IsLoose Spells (site_of g key) identity log image line

-- behind a crash some places are blanked, or none
abbrev pub IsLoss : List Event → Type 0
IsLoss es = (spots : List Spot) × (es ≡ Crash ∷ wiped_all spots)

abbrev pub Anything : Core → Type 0
Anything w = Unit {0}

pub record OthersGo : Type 0 where
  -- while a claim or a table is written to another database's replica, the world stays
  pub claims : (read : List ℕ → Option Table) (g : Geometry) (key : Key) (identity : Identity) (log : Log) (w : Core) (old new : Image) (other : Key) (line : SliceLine) (k : ℕ) (first : Master) (head : Head) (number : ℕ)
      → IsBeside (Reads read) g key identity other old line k first head → number < 2 ^ 63 → IsWorld (Reads read) (site_of g key) identity log w old → MayClaim (place_on line first.blocks first.count k) number old new
      → IsWorld (Reads read) (site_of g key) identity log w new
  pub slots : (read : List ℕ → Option Table) (g : Geometry) (key : Key) (identity : Identity) (log : Log) (w : Core) (old new : Image) (other : Key) (line : SliceLine) (k : ℕ) (first : Master) (head : Head) (slot : Slot) (mark : Mark) (bytes : ℕ) (body : List (List ℕ))
      → IsBeside (Reads read) g key identity other old line k first head → IsTable (Counts (Reads read)) (place_on line first.blocks first.count k) mark bytes body → IsWorld (Reads read) (site_of g key) identity log w old
      → MayFill (place_on line first.blocks first.count k) slot mark bytes body old new → IsWorld (Reads read) (site_of g key) identity log w new
  -- while a place of another database is blanked, where nothing else is found from there on, the world stays
  pub wipes : (read : List ℕ → Option Table) (g : Geometry) (key : Key) (identity : Identity) (log : Log) (w : Core) (old new : Image) (other : Key) (its : Identity) (line : SliceLine) (k : ℕ) (first : Master)
      → IsSound g → (its ≡ identity → ⊥) → HasFirst (site_of g other) old line first → 16 + k * first.blocks < line.at.blocks → IsAlone (Reads read) g its old line k → IsWorld (Reads read) (site_of g key) identity log w old
      → MayWipe (place_on line first.blocks first.count k) old new → IsWorld (Reads read) (site_of g key) identity log w new
  -- while a place is formatted for another database, where what lies there may be taken from this one: the world stays, or loses what lay there and behind it
  pub first_formats : (read : List ℕ → Option Table) (g : Geometry) (key : Key) (identity : Identity) (log : Log) (w : Core) (old new : Image) (other : Key) (its : Identity) (line : SliceLine) (blocks count number : ℕ) (before : Option Master)
      → IsSound g → IsAnother key identity other its → IsFormat (site_of g other) its old line blocks count 0 number → FirstIs (site_of g other) old line before
      → IsWorld (Reads read) (site_of g key) identity log w old → MayLose (Reads read) g key identity log old line → MayFormat (place_on line blocks count 0) (master_on (site_of g other) its line blocks count 0) number old new
      → Turned (Reads read) (site_of g key) identity log w new IsLoss Anything
  pub later_formats : (read : List ℕ → Option Table) (g : Geometry) (key : Key) (identity : Identity) (log : Log) (w : Core) (old new : Image) (other : Key) (its : Identity) (line : SliceLine) (k number : ℕ) (first : Master)
      → IsSound g → IsAnother key identity other its → 0 < k → IsFormat (site_of g other) its old line first.blocks first.count k number → HasFirst (site_of g other) old line first
      → IsWorld (Reads read) (site_of g key) identity log w old → MayLose (Reads read) g key identity log old line → MayFormat (place_on line first.blocks first.count k) (master_on (site_of g other) its line first.blocks first.count k) number old new
      → Turned (Reads read) (site_of g key) identity log w new IsLoss Anything
