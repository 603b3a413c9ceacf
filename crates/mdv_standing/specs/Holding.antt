-- How the drives stand with all databases at once.
use Rattle.std.specs.Prelude.{◌≡◌, ℕ, ◌+◌, ◌*◌, ◌<◌, ◌^◌, List, [], ◌∷◌, Option, Contains}
use Rattle.mdv_name.specs.Sound.{IsSound}
use Rattle.mdv_shown.specs.Found.{Counts, IsFound}
use Rattle.mdv_shown.specs.Sites.{site_of}
use Rattle.mdv_store_law.specs.Laws.{restarted}
use Rattle.mdv_standing.specs.Below.{Core, Everywhere, FirstIs, Geometry, HasFirst, Head, Identity, Image, IsFormat, IsImage, IsTable, Key, Mark, Master, MayClaim, MayFill, MayFormat, MayWipe, Reads, SliceLine, Slot, Table, Tale, master_on, place_on}
use Rattle.mdv_standing.specs.Databases.{Database, with_creation}
use Rattle.mdv_standing.specs.Laws.{HasNone}
use Rattle.mdv_standing.specs.Worlds.{IsWorld}

-- a world of this database, which the image shows
abbrev pub HasWorld : (List ℕ → Table → Type 0) → Geometry → Image → Database → Type 0
HasWorld Spells g image d = (w : Core) × IsWorld Spells (site_of g d.key) d.identity d.log w image

-- one of them has this key and this identity
pub record IsOneOf (all : List Database) (key : Key) (identity : Identity) : Type 0 where
  pub database : Database
  pub one_of : Contains all database
  pub of_key : database.key ≡ key
  pub of_identity : database.identity ≡ identity

-- none of them has this identity
abbrev pub IsFresh : List Database → Identity → Type 0
IsFresh all identity = (d : Database) → Contains all d → d.identity ≡ identity → ⊥

-- no identity stands twice
abbrev pub AreOnce : List Database → Type 0
AreOnce [] = Unit {0}
AreOnce (d ∷ all) = IsFresh all d.identity × AreOnce all

-- each replica that is found, of whatever key, is of one of them
abbrev pub AreKnown : (List ℕ → Table → Type 0) → Geometry → List Database → Image → Type 0
AreKnown Spells g all image =
    (key : Key) (line : SliceLine) (k : ℕ) (first : Master) (head : Head) → IsFound Spells (site_of g key) line k (image line.at.drive.0) first head → IsOneOf all key head.master.identity

-- The image shows a world of each database that was ever begun; each replica that is found is of one of them; and no two have one identity.
pub record Holds (Spells : List ℕ → Table → Type 0) (g : Geometry) (all : List Database) (image : Image) : Type 0 where
  pub worlds : (d : Database) → Contains all d → HasWorld Spells g image d
  pub known : AreKnown Spells g all image
  pub once : AreOnce all

-- whatever a crash leaves
abbrev pub AllStand : (List ℕ → Table → Type 0) → Geometry → List Database → Tale → Type 0
AllStand Spells g all = Everywhere (Holds Spells g all)

-- no replica is found, of whatever key
abbrev pub HasNoReplica : (List ℕ → Table → Type 0) → Geometry → Image → Type 0
HasNoReplica Spells g image = (key : Key) (line : SliceLine) (k : ℕ) (first : Master) (head : Head) → IsFound Spells (site_of g key) line k (image line.at.drive.0) first head → ⊥

pub record DatabasesStand : Type 0 where
  -- what a crash leaves of drives that stand with all databases does
  pub crashes : (read : List ℕ → Option Table) (g : Geometry) (all : List Database) (m : Tale) (image : Image) (told : List ℕ) → AllStand (Reads read) g all m → IsImage m image
      → AllStand (Reads read) g all (restarted image told)
  -- drives without a replica stand with none
  pub new : (read : List ℕ → Option Table) (g : Geometry) (image : Image) (told : List ℕ) → HasNoReplica (Reads read) g image → AllStand (Reads read) g [] (restarted image told)
  -- no replica is found of a database that wasn't begun, so a creation may begin
  pub none : (read : List ℕ → Option Table) (g : Geometry) (all : List Database) (image : Image) (key : Key) (identity : Identity) → Holds (Reads read) g all image → IsFresh all identity
      → HasNone (Reads read) (site_of g key) identity image
  -- and they stand with that one too
  pub begins : (read : List ℕ → Option Table) (g : Geometry) (all : List Database) (image : Image) (key : Key) (identity : Identity) → Holds (Reads read) g all image → IsFresh all identity
      → Holds (Reads read) g (with_creation key identity all) image

-- What is found stays one of them while a replica of one is claimed, written or blanked, and while a place is formatted for one.
pub record KnownStay : Type 0 where
  pub claims : (read : List ℕ → Option Table) (g : Geometry) (all : List Database) (old new : Image) (key : Key) (line : SliceLine) (k : ℕ) (first : Master) (head : Head) (number : ℕ) → IsSound g
      → IsFound (Reads read) (site_of g key) line k (old line.at.drive.0) first head → number < 2 ^ 63 → AreKnown (Reads read) g all old → MayClaim (place_on line first.blocks first.count k) number old new → AreKnown (Reads read) g all new
  pub slots : (read : List ℕ → Option Table) (g : Geometry) (all : List Database) (old new : Image) (key : Key) (line : SliceLine) (k : ℕ) (first : Master) (head : Head) (slot : Slot) (mark : Mark) (bytes : ℕ) (body : List (List ℕ)) → IsSound g
      → IsFound (Reads read) (site_of g key) line k (old line.at.drive.0) first head → IsTable (Counts (Reads read)) (place_on line first.blocks first.count k) mark bytes body → AreKnown (Reads read) g all old
      → MayFill (place_on line first.blocks first.count k) slot mark bytes body old new → AreKnown (Reads read) g all new
  pub wipes : (read : List ℕ → Option Table) (g : Geometry) (all : List Database) (old new : Image) (key : Key) (line : SliceLine) (k : ℕ) (first : Master) → IsSound g
      → HasFirst (site_of g key) old line first → 16 + k * first.blocks < line.at.blocks → AreKnown (Reads read) g all old → MayWipe (place_on line first.blocks first.count k) old new → AreKnown (Reads read) g all new
  pub first_formats : (read : List ℕ → Option Table) (g : Geometry) (all : List Database) (old new : Image) (key : Key) (identity : Identity) (line : SliceLine) (blocks count number : ℕ) (before : Option Master) → IsSound g → IsOneOf all key identity
      → IsFormat (site_of g key) identity old line blocks count 0 number → FirstIs (site_of g key) old line before → AreKnown (Reads read) g all old
      → MayFormat (place_on line blocks count 0) (master_on (site_of g key) identity line blocks count 0) number old new → AreKnown (Reads read) g all new
  pub later_formats : (read : List ℕ → Option Table) (g : Geometry) (all : List Database) (old new : Image) (key : Key) (identity : Identity) (line : SliceLine) (k number : ℕ) (first : Master) → IsSound g → IsOneOf all key identity → 0 < k
      → IsFormat (site_of g key) identity old line first.blocks first.count k number → HasFirst (site_of g key) old line first → AreKnown (Reads read) g all old
      → MayFormat (place_on line first.blocks first.count k) (master_on (site_of g key) identity line first.blocks first.count k) number old new → AreKnown (Reads read) g all new
