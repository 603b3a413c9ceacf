-- How all databases stand while one of them is written: the others, and that one.
use Rattle.std.specs.Prelude.{◌≡◌, ◌⊎◌, ℕ, ◌+◌, ◌*◌, ◌<◌, ◌^◌, List, Option, Some, Contains}
use Rattle.mdv_name.specs.Sound.{IsSound}
use Rattle.mdv_shown.specs.Found.{Counts}
use Rattle.mdv_shown.specs.Sites.{site_of}
use Rattle.mdv_store_law.specs.Log as log
use Rattle.mdv_standing.specs.Below.{Everywhere, FirstIs, Geometry, HasFirst, Head, Identity, Image, IsFormat, IsOwn, IsTable, Key, Leaves, Mark, Master, MayClaim, MayFill, MayFormat, MayWipe, Reads, SliceLine, Slot, Table, Tale, master_on, place_on}
use Rattle.mdv_standing.specs.Databases.{Database, current_of, with_event}
use Rattle.mdv_standing.specs.Holding.{AllStand, AreKnown, AreOnce, HasWorld, IsOneOf}
use Rattle.mdv_standing.specs.Others.{IsAlone, MayLose}
use Rattle.mdv_standing.specs.Standing.{Covers}

-- another database than the one with this identity
abbrev pub IsRest : List Database → Identity → Database → Type 0
IsRest all identity d = Contains all d × (d.identity ≡ identity → ⊥)

-- As all, but that of the one with this identity no world is known.
pub record HoldsRest (Spells : List ℕ → Table → Type 0) (g : Geometry) (all : List Database) (identity : Identity) (image : Image) : Type 0 where
  pub worlds : (d : Database) → IsRest all identity d → HasWorld Spells g image d
  pub known : AreKnown Spells g all image
  pub once : AreOnce all

abbrev pub RestStands : (List ℕ → Table → Type 0) → Geometry → List Database → Identity → Tale → Type 0
RestStands Spells g all identity = Everywhere (HoldsRest Spells g all identity)

-- the database's boots don't look on that slice, or what lies there may be taken from it
abbrev pub MayBeTaken : (List ℕ → Table → Type 0) → Geometry → SliceLine → Image → Database → Type 0
MayBeTaken Spells g line image d = (Contains (site_of g d.key).lines line → ⊥) ⊎ MayLose Spells g d.key d.identity d.log image line

-- so it is of each of the rest
abbrev pub RestMayBeTaken : (List ℕ → Table → Type 0) → Geometry → List Database → Identity → SliceLine → Tale → Type 0
RestMayBeTaken Spells g all identity line = Everywhere (λ image. (d : Database) → IsRest all identity d → MayBeTaken Spells g line image d)

pub record DatabasesTurn : Type 0 where
  -- where all stand, the rest does
  pub rest : (read : List ℕ → Option Table) (g : Geometry) (all : List Database) (identity : Identity) (t : Tale) → AllStand (Reads read) g all t → RestStands (Reads read) g all identity t
  -- while the one's replica is claimed or written
  pub claims : (read : List ℕ → Option Table) (g : Geometry) (all : List Database) (key : Key) (identity : Identity) (t m : Tale) (line : SliceLine) (k : ℕ) (first : Master) (head : Head) (number : ℕ) → IsSound g
      → Everywhere (λ image. IsOwn (Reads read) (site_of g key) identity line k image first head) t → number < 2 ^ 63 → RestStands (Reads read) g all identity t
      → Leaves (MayClaim (place_on line first.blocks first.count k) number) t m → RestStands (Reads read) g all identity m
  pub slots : (read : List ℕ → Option Table) (g : Geometry) (all : List Database) (key : Key) (identity : Identity) (t m : Tale) (line : SliceLine) (k : ℕ) (first : Master) (head : Head) (slot : Slot) (mark : Mark) (bytes : ℕ) (body : List (List ℕ)) → IsSound g
      → Everywhere (λ image. IsOwn (Reads read) (site_of g key) identity line k image first head) t → IsTable (Counts (Reads read)) (place_on line first.blocks first.count k) mark bytes body → RestStands (Reads read) g all identity t
      → Leaves (MayFill (place_on line first.blocks first.count k) slot mark bytes body) t m → RestStands (Reads read) g all identity m
  -- while one of its places is blanked, where nothing else is found from there on
  pub wipes : (read : List ℕ → Option Table) (g : Geometry) (all : List Database) (key : Key) (identity : Identity) (t m : Tale) (line : SliceLine) (k : ℕ) (first : Master) → IsSound g
      → Everywhere (λ image. HasFirst (site_of g key) image line first) t → 16 + k * first.blocks < line.at.blocks → Everywhere (λ image. IsAlone (Reads read) g identity image line k) t → RestStands (Reads read) g all identity t
      → Leaves (MayWipe (place_on line first.blocks first.count k)) t m → RestStands (Reads read) g all identity m
  -- while a place is formatted for it
  pub first_formats : (read : List ℕ → Option Table) (g : Geometry) (all : List Database) (key : Key) (identity : Identity) (t m : Tale) (line : SliceLine) (blocks count number : ℕ) (before : Option Master) → IsSound g → IsOneOf all key identity
      → Everywhere (λ image. IsFormat (site_of g key) identity image line blocks count 0 number) t → Everywhere (λ image. FirstIs (site_of g key) image line before) t → RestMayBeTaken (Reads read) g all identity line t
      → RestStands (Reads read) g all identity t → Leaves (MayFormat (place_on line blocks count 0) (master_on (site_of g key) identity line blocks count 0) number) t m → RestStands (Reads read) g all identity m
  pub later_formats : (read : List ℕ → Option Table) (g : Geometry) (all : List Database) (key : Key) (identity : Identity) (t m : Tale) (line : SliceLine) (k number : ℕ) (first : Master) → IsSound g → IsOneOf all key identity → 0 < k
      → Everywhere (λ image. IsFormat (site_of g key) identity image line first.blocks first.count k number) t → Everywhere (λ image. HasFirst (site_of g key) image line first) t → RestMayBeTaken (Reads read) g all identity line t
      → RestStands (Reads read) g all identity t → Leaves (MayFormat (place_on line first.blocks first.count k) (master_on (site_of g key) identity line first.blocks first.count k) number) t m → RestStands (Reads read) g all identity m
  -- and with the one itself all stand, whose log may have gone on
  pub joins : (read : List ℕ → Option Table) (g : Geometry) (all : List Database) (d : Database) (t : Tale) → Contains all d → RestStands (Reads read) g all d.identity t → Covers (Reads read) (site_of g d.key) d.identity d.log t
      → AllStand (Reads read) g all t
  pub goes : (read : List ℕ → Option Table) (g : Geometry) (all : List Database) (d : Database) (e : log.Event) (t : Tale) → current_of all d.key ≡ Some d → RestStands (Reads read) g all d.identity t
      → Covers (Reads read) (site_of g d.key) d.identity (log.log_after d.log e) t → AllStand (Reads read) g (with_event d.key e all) t
