-- How an image's world goes on while a place is formatted for this database.
use Rattle.std.specs.Prelude.{◌≡◌, ◌⊎◌, ℕ, ◌+◌, ◌-◌, ◌*◌, ◌<◌, ◌≤◌, ◌^◌, not, List, [], Option, Some, None, IsTrue, Contains, filter}
use Rattle.mdv_shown.specs.Below.{Identity, Key, SliceLine, IsMaster, LiesAt, Master, Head, Image, MayFormat, Formats, master_of, formatted_head, block_of, Core, Stage, Reading, Creating, Claiming, Writing, Ready, may, happens, after_all, Formatted, Spot, is_in}
use Rattle.mdv_shown.specs.Site.{Site, IsSite, size_on, place_on, spot_on}
use Rattle.mdv_shown.specs.Found.{IsInChain}
use Rattle.mdv_shown.specs.Shown.{Shows}
use Rattle.mdv_shown.specs.Laws.{Reads}
use Rattle.mdv_shown.specs.Wipes.{FirstIs, HasFirst, spots_behind, spots_from, wiped_all}
use Rattle.mdv_shown.specs.Worlds.{IsShownWith}

-- the master of the replica of this number, where each has so many blocks and there are so many
abbrev pub master_on : Site → Identity → SliceLine → ℕ → ℕ → ℕ → Master
master_on site identity line blocks count k = master_of (place_on line blocks count k) site.key identity

-- A place of one of the slices that may be formatted. The masters of those behind it are blank, so that it brings none of them to light.
pub record IsFormat (site : Site) (identity : Identity) (image : Image) (line : SliceLine) (blocks count k number : ℕ) : Type 0 where
  pub site_is : IsSite site
  pub one_of : Contains site.lines line
  pub within : 16 + k * blocks + blocks ≤ line.at.blocks
  pub numbered : (k ≡ 0) ⊎ (k < count)
  pub form : IsMaster (master_on site identity line blocks count k)
  pub lies : LiesAt (place_on line blocks count k) (size_on site line) (master_on site identity line blocks count k)
  pub small : number < 2 ^ 63
  pub behind : (j : ℕ) → k < j → j < count → 16 + j * blocks + blocks ≤ line.at.blocks → image line.at.drive.0 (line.at.start + (16 + j * blocks)) ≡ block_of []

-- the number that a formatted place has as its claim: that of the table in hand
abbrev pub next_number : Stage → Option ℕ
next_number (Reading read) = None
next_number (Creating next) = Some next.mark.boot
next_number (Claiming adopted next claimed) = None
next_number (Writing boot took) = None
next_number (Ready None) = None
next_number (Ready (Some next)) = Some next.mark.boot

pub record IsFormattable (w : Core) (p : Spot) (number : ℕ) : Type 0 where
  pub fits : IsTrue (may w (Formatted p))
  pub number_is : next_number w.stage ≡ Some number

-- what is lost with that master: all that it leads to
abbrev pub lost_with : SliceLine → Option Master → List Spot
lost_with line None = []
lost_with line (Some first) = spots_behind line first 0

-- what is lost when the first place is formatted: all of it but that place, and the new places behind it, which are blank
abbrev pub lost_beside : SliceLine → Option Master → ℕ → ℕ → List Spot
lost_beside line None blocks count = []
lost_beside line (Some first) blocks count = filter (λ (q : Spot). not (is_in (spots_from line blocks 1 (count - 1)) q)) (spots_behind line first 1)

-- The first place of a slice is formatted.
pub record FirstFormatsGo (T : Type 0) : Type 0 where
  -- at each moment the image shows the world as it was; or that without the slice's replicas; or with this one formatted and the others lost
  pub moments : (read : List ℕ → Option T) (site : Site) (identity : Identity) (tables : ℕ → T) (w : Core) (old new : Image) (line : SliceLine) (blocks count number : ℕ) (before : Option Master)
      → IsFormat site identity old line blocks count 0 number → FirstIs site old line before → Shows (Reads read) site identity tables w old
      → IsFormattable (after_all w (wiped_all (lost_beside line before blocks count))) (spot_on line blocks 0) number
      → MayFormat (place_on line blocks count 0) (master_on site identity line blocks count 0) number old new
      → Shows (Reads read) site identity tables w new ⊎ (Shows (Reads read) site identity tables (after_all w (wiped_all (lost_with line before))) new
      ⊎ Shows (Reads read) site identity tables (happens (after_all w (wiped_all (lost_beside line before blocks count))) (Formatted (spot_on line blocks 0))) new)
  -- in the end the last, and the replica is found
  pub end : (read : List ℕ → Option T) (site : Site) (identity : Identity) (tables : ℕ → T) (w : Core) (old new : Image) (line : SliceLine) (blocks count number : ℕ) (before : Option Master)
      → IsFormat site identity old line blocks count 0 number → FirstIs site old line before → Shows (Reads read) site identity tables w old
      → IsFormattable (after_all w (wiped_all (lost_beside line before blocks count))) (spot_on line blocks 0) number
      → Formats (place_on line blocks count 0) (master_on site identity line blocks count 0) number old new
      → IsShownWith (Reads read) site identity tables (happens (after_all w (wiped_all (lost_beside line before blocks count))) (Formatted (spot_on line blocks 0))) new line 0
      (master_on site identity line blocks count 0) (formatted_head (place_on line blocks count 0) site.key identity number)

-- A later place is formatted, behind readable ones of that length.
pub record LaterFormatsGo (T : Type 0) : Type 0 where
  -- at each moment the image shows the world as it was, or that without this place, or with it formatted
  pub moments : (read : List ℕ → Option T) (site : Site) (identity : Identity) (tables : ℕ → T) (w : Core) (old new : Image) (line : SliceLine) (k number : ℕ) (first : Master)
      → 0 < k → IsFormat site identity old line first.blocks first.count k number → HasFirst site old line first
      → ((j : ℕ) → j < k → (h : Head) × IsInChain (Reads read) site line j (old line.at.drive.0) first h) → Shows (Reads read) site identity tables w old
      → IsFormattable w (spot_on line first.blocks k) number
      → MayFormat (place_on line first.blocks first.count k) (master_on site identity line first.blocks first.count k) number old new
      → Shows (Reads read) site identity tables w new ⊎ (Shows (Reads read) site identity tables (after_all w (wiped_all (spots_behind line first k))) new
      ⊎ Shows (Reads read) site identity tables (happens w (Formatted (spot_on line first.blocks k))) new)
  -- in the end the last, and the replica is found
  pub end : (read : List ℕ → Option T) (site : Site) (identity : Identity) (tables : ℕ → T) (w : Core) (old new : Image) (line : SliceLine) (k number : ℕ) (first : Master)
      → 0 < k → IsFormat site identity old line first.blocks first.count k number → HasFirst site old line first
      → ((j : ℕ) → j < k → (h : Head) × IsInChain (Reads read) site line j (old line.at.drive.0) first h) → Shows (Reads read) site identity tables w old
      → IsFormattable w (spot_on line first.blocks k) number
      → Formats (place_on line first.blocks first.count k) (master_on site identity line first.blocks first.count k) number old new
      → IsShownWith (Reads read) site identity tables (happens w (Formatted (spot_on line first.blocks k))) new line k first
      (formatted_head (place_on line first.blocks first.count k) site.key identity number)

-- A place is formatted for another database, of another key or another identity: what is found there and behind it is lost, and nothing is brought to light.
pub record OthersFormatsGo (T : Type 0) : Type 0 where
  -- the first place of a slice
  pub first : (read : List ℕ → Option T) (site : Site) (identity : Identity) (tables : ℕ → T) (w : Core) (old new : Image) (line : SliceLine) (blocks count number : ℕ) (before : Option Master) (key : Key) (other : Identity)
      → (key ≡ site.key → other ≡ identity → ⊥) → IsFormat (record site { key = key }) other old line blocks count 0 number → FirstIs site old line before → Shows (Reads read) site identity tables w old
      → MayFormat (place_on line blocks count 0) (master_on (record site { key = key }) other line blocks count 0) number old new
      → Shows (Reads read) site identity tables w new ⊎ Shows (Reads read) site identity tables (after_all w (wiped_all (lost_with line before))) new
  -- a later one
  pub later : (read : List ℕ → Option T) (site : Site) (identity : Identity) (tables : ℕ → T) (w : Core) (old new : Image) (line : SliceLine) (k number : ℕ) (first : Master) (key : Key) (other : Identity)
      → (key ≡ site.key → other ≡ identity → ⊥) → 0 < k → IsFormat (record site { key = key }) other old line first.blocks first.count k number → HasFirst site old line first
      → Shows (Reads read) site identity tables w old
      → MayFormat (place_on line first.blocks first.count k) (master_on (record site { key = key }) other line first.blocks first.count k) number old new
      → Shows (Reads read) site identity tables w new ⊎ Shows (Reads read) site identity tables (after_all w (wiped_all (spots_behind line first k))) new
