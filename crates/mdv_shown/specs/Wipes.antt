-- How an image's world goes on while a master is blanked, whosever replica lies there.
use Rattle.std.specs.Prelude.{◌⊎◌, ℕ, zero, suc, ◌+◌, ◌-◌, ◌*◌, ◌<◌, max, cond, nat_le, List, [], ◌∷◌, map, Option, Some, None, Contains}
use Rattle.mdv_shown.specs.Below.{Identity, SliceLine, IsMasterAt, Master, Image, SameOutside, MayWipe, Wipes, Core, Event, Wiped, after_all, Spot}
use Rattle.mdv_shown.specs.Site.{Site, IsSite, size_on, place_on, spot_on, line_area}
use Rattle.mdv_shown.specs.Shown.{Shows}
use Rattle.mdv_shown.specs.Laws.{Reads}

-- the spots of so many replicas of a slice from this number on, as far as they end within it
abbrev pub spots_from : SliceLine → ℕ → ℕ → ℕ → List Spot
spots_from line blocks k zero = []
spots_from line blocks k (suc n) =
    cond (nat_le (16 + k * blocks + blocks) line.at.blocks) (spot_on line blocks k ∷ spots_from line blocks (k + 1) n) (spots_from line blocks (k + 1) n)

-- those that a boot may find from this number on, where this is the slice's first master: it tells of one at least
abbrev pub spots_behind : SliceLine → Master → ℕ → List Spot
spots_behind line first k = spots_from line first.blocks k (max 1 first.count - k)

abbrev pub wiped_all : List Spot → List Event
wiped_all spots = map Wiped spots

-- the slice's first master in this image
pub record HasFirst (site : Site) (image : Image) (line : SliceLine) (first : Master) : Type 0 where
  pub site_is : IsSite site
  pub one_of : Contains site.lines line
  pub located : IsMasterAt (place_on line 8192 0 0) (size_on site line) (image line.at.drive.0 (line.at.start + 16)) first

-- the slice's first master in this image, or that it has none
abbrev pub FirstIs : Site → Image → SliceLine → Option Master → Type 0
FirstIs site image line None = (m : Master) → IsMasterAt (place_on line 8192 0 0) (size_on site line) (image line.at.drive.0 (line.at.start + 16)) m → ⊥
FirstIs site image line (Some first) = IsMasterAt (place_on line 8192 0 0) (size_on site line) (image line.at.drive.0 (line.at.start + 16)) first

-- The master of a replica is blanked, on its slice. That one and those behind it aren't found any more.
pub record WipesGo (T : Type 0) : Type 0 where
  -- at each moment the image shows the world as it was, or without these
  pub moments : (read : List ℕ → Option T) (site : Site) (identity : Identity) (tables : ℕ → T) (w : Core) (old new : Image) (line : SliceLine) (k : ℕ) (first : Master)
      → HasFirst site old line first → 16 + k * first.blocks < line.at.blocks → Shows (Reads read) site identity tables w old
      → MayWipe (place_on line first.blocks first.count k) old new
      → Shows (Reads read) site identity tables w new ⊎ Shows (Reads read) site identity tables (after_all w (wiped_all (spots_behind line first k))) new
  -- in the end without these
  pub end : (read : List ℕ → Option T) (site : Site) (identity : Identity) (tables : ℕ → T) (w : Core) (old new : Image) (line : SliceLine) (k : ℕ) (first : Master)
      → HasFirst site old line first → 16 + k * first.blocks < line.at.blocks → Shows (Reads read) site identity tables w old
      → Wipes (place_on line first.blocks first.count k) old new
      → Shows (Reads read) site identity tables (after_all w (wiped_all (spots_behind line first k))) new

-- A slice that has no first master shows nothing, whatever is written to it so long.
abbrev pub BlankSlicesRest : Type 0 → Type 0
BlankSlicesRest T =
    (read : List ℕ → Option T) (site : Site) (identity : Identity) (tables : ℕ → T) (w : Core) (old new : Image) (line : SliceLine) → IsSite site → Contains site.lines line
    → FirstIs site old line None → FirstIs site new line None → SameOutside (line_area line) old new → Shows (Reads read) site identity tables w old → Shows (Reads read) site identity tables w new
