-- How all databases stand while the places of slices are blanked, before a creation formats them. The first master of a slice goes first: then no
-- replica is found there, whatever is blanked behind it.
use Rattle.std.specs.Prelude.{◌≡◌, ◌⊎◌, ℕ, ◌+◌, ◌*◌, ◌<◌, ◌≤◌, ◌^◌, List, [], Option, None, Contains}
use Rattle.mdv_name.specs.Sound.{IsSound}
use Rattle.mdv_replica.specs.Forms.{IsMaster, block_of}
use Rattle.mdv_replica.specs.Images.{Wipes}
use Rattle.mdv_replica.specs.Replica.{LiesAt}
use Rattle.mdv_shown.specs.Site.{line_area, size_on}
use Rattle.mdv_shown.specs.Sites.{site_of}
use Rattle.mdv_standing.specs.Below.{Lives, AreApart, Everywhere, FirstIs, Geometry, HasFirst, Identity, Image, IsFormat, IsSite, Key, Leaves, Master, MayFormat, MayWipe, PlaceAt, Reads, Site, SliceLine, Table, Tale, master_on, place_on}
use Rattle.mdv_standing.specs.Databases.{Database}
use Rattle.mdv_standing.specs.Holding.{AllStand}
use Rattle.mdv_standing.specs.Laws.{HasNone}
use Rattle.mdv_standing.specs.Rest.{RestMayBeTaken, RestStands}

-- A creation may clear these slices: no replica of its database is found, the rest stands, and may be taken there.
pub record MayClear (Spells : List ℕ → Table → Type 0) (g : Geometry) (all : List Database) (key : Key) (identity : Identity) (lines : List SliceLine) (t : Tale) : Type 0 where
  pub none : Everywhere (λ image. HasNone Spells (site_of g key) identity image) t
  pub rest : RestStands Spells g all identity t
  pub taken : (line : SliceLine) → Contains lines line → RestMayBeTaken Spells g all identity line t

-- the slice has no first master, so that no replica is found there
abbrev pub HasNoFirst : Site → SliceLine → Tale → Type 0
HasNoFirst site line = Everywhere (λ image. FirstIs site image line None)

-- the masters of the places from this number on are blank, as far as the places end within the slice
abbrev pub AreBlank : SliceLine → ℕ → ℕ → ℕ → Image → Type 0
AreBlank line blocks from count image = (j : ℕ) → from ≤ j → j < count → 16 + j * blocks + blocks ≤ line.at.blocks → image line.at.drive.0 (line.at.start + (16 + j * blocks)) ≡ block_of []

-- A place that may be formatted, whatever lies behind it.
pub record IsFormatOn (site : Site) (identity : Identity) (line : SliceLine) (blocks count k number : ℕ) : Type 0 where
  pub site_is : IsSite site
  pub one_of : Contains site.lines line
  pub within : 16 + k * blocks + blocks ≤ line.at.blocks
  pub numbered : (k ≡ 0) ⊎ (k < count)
  pub form : IsMaster (master_on site identity line blocks count k)
  pub lies : LiesAt (place_on line blocks count k) (size_on site line) (master_on site identity line blocks count k)
  pub small : number < 2 ^ 63

pub record ClearsTurn : Type 0 where
  -- while the first place of a slice is blanked, whatever its first master leads to
  pub first : (read : List ℕ → Option Table) (g : Geometry) (all : List Database) (key : Key) (identity : Identity) (lines : List SliceLine) (t m : Tale) (line : SliceLine) (blocks count number : ℕ) (before : Option Master) → IsSound g
      → Contains lines line → IsFormatOn (site_of g key) identity line blocks count 0 number → Everywhere (λ image. FirstIs (site_of g key) image line before) t → MayClear (Reads read) g all key identity lines t
      → Leaves (MayWipe (place_on line blocks count 0)) t m → MayClear (Reads read) g all key identity lines m
  -- once it is, the slice has no first master
  pub cleared : (site : Site) (t m : Tale) (line : SliceLine) (blocks count : ℕ) → Leaves (Wipes (place_on line blocks count 0)) t m → HasNoFirst site line m
  -- then while any place of it is blanked
  pub later : (read : List ℕ → Option Table) (g : Geometry) (all : List Database) (key : Key) (identity : Identity) (lines : List SliceLine) (t m : Tale) (line : SliceLine) (blocks count k : ℕ) → IsSound g
      → Contains (site_of g key).lines line → 16 + k * blocks < line.at.blocks → HasNoFirst (site_of g key) line t → MayClear (Reads read) g all key identity lines t
      → Leaves (MayWipe (place_on line blocks count k)) t m → MayClear (Reads read) g all key identity lines m
  -- a place of whatever slice is blanked, which leaves the slice without one
  pub still : (site : Site) (t m : Tale) (line : SliceLine) (at : PlaceAt) → HasNoFirst site line t → Leaves (MayWipe at) t m → HasNoFirst site line m
  -- meanwhile all databases stand, one of which is that of the creation, without a table
  pub stands : (read : List ℕ → Option Table) (g : Geometry) (all : List Database) (d : Database) (lines : List SliceLine) (t : Tale) → Contains all d → d.log.family ≡ [] → d.log.fate ≡ Lives → MayClear (Reads read) g all d.key d.identity lines t
      → AllStand (Reads read) g all t

-- What was blanked is blank where a format starts from it, and the rest may be taken.
pub record BlanksStay : Type 0 where
  -- a place is blanked, of whatever slice; once it is, those from it on are blank
  pub wiping : (t m : Tale) (line : SliceLine) (blocks from count : ℕ) (at : PlaceAt) → Everywhere (AreBlank line blocks from count) t → Leaves (MayWipe at) t m → Everywhere (AreBlank line blocks from count) m
  pub wiped : (t m : Tale) (line : SliceLine) (blocks count k : ℕ) → Everywhere (AreBlank line blocks (k + 1) count) t → Leaves (Wipes (place_on line blocks count k)) t m → Everywhere (AreBlank line blocks k count) m
  -- a place in front of them is formatted
  pub formatting : (t m : Tale) (line : SliceLine) (blocks from count k number : ℕ) (master : Master) → 16 ≤ blocks → k < from → Everywhere (AreBlank line blocks from count) t → Leaves (MayFormat (place_on line blocks count k) master number) t m
      → Everywhere (AreBlank line blocks from count) m
  -- or one of another slice
  pub beside : (t m : Tale) (line other : SliceLine) (blocks from count its many k number : ℕ) (master : Master) → AreApart (line_area other) (line_area line) → 16 ≤ blocks → 16 ≤ its → 16 + k * its + its ≤ other.at.blocks
      → Everywhere (AreBlank line blocks from count) t → Leaves (MayFormat (place_on other its many k) master number) t m → Everywhere (AreBlank line blocks from count) m
  pub first_beside : (site : Site) (t m : Tale) (line other : SliceLine) (before : Option Master) (its many k number : ℕ) (master : Master) → IsSite site → Contains site.lines line → AreApart (line_area other) (line_area line) → 16 ≤ its → 16 + k * its + its ≤ other.at.blocks
      → Everywhere (λ image. FirstIs site image line before) t → Leaves (MayFormat (place_on other its many k) master number) t m → Everywhere (λ image. FirstIs site image line before) m
  -- so a place may be formatted
  pub formats : (site : Site) (identity : Identity) (t : Tale) (line : SliceLine) (blocks count k number : ℕ) → IsFormatOn site identity line blocks count k number → Everywhere (AreBlank line blocks (k + 1) count) t
      → Everywhere (λ image. IsFormat site identity image line blocks count k number) t
  -- and meanwhile the rest may still be taken on whatever slice
  pub first_taken : (read : List ℕ → Option Table) (g : Geometry) (all : List Database) (key : Key) (identity : Identity) (t m : Tale) (other line : SliceLine) (blocks count number : ℕ) (before : Option Master) → IsSound g
      → Everywhere (λ image. IsFormat (site_of g key) identity image line blocks count 0 number) t → Everywhere (λ image. FirstIs (site_of g key) image line before) t → RestMayBeTaken (Reads read) g all identity other t
      → Leaves (MayFormat (place_on line blocks count 0) (master_on (site_of g key) identity line blocks count 0) number) t m → RestMayBeTaken (Reads read) g all identity other m
  pub later_taken : (read : List ℕ → Option Table) (g : Geometry) (all : List Database) (key : Key) (identity : Identity) (t m : Tale) (other line : SliceLine) (k number : ℕ) (first : Master) → IsSound g → 0 < k
      → Everywhere (λ image. IsFormat (site_of g key) identity image line first.blocks first.count k number) t → Everywhere (λ image. HasFirst (site_of g key) image line first) t → RestMayBeTaken (Reads read) g all identity other t
      → Leaves (MayFormat (place_on line first.blocks first.count k) (master_on (site_of g key) identity line first.blocks first.count k) number) t m → RestMayBeTaken (Reads read) g all identity other m
