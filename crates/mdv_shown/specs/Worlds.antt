-- How an image's world goes on while a claim or a table is written to a replica, whatever the tables are.
use Rattle.std.specs.Prelude.{◌≡◌, ◌⊎◌, ℕ, ◌<◌, ◌^◌, List, Option, Some, IsTrue}
use Rattle.mdv_shown.specs.Below.{Identity, SliceLine, Master, Head, Slot, Image, RestsOn, IsSpareSlot, Claims, Fills, MayClaim, MayFill, claimed_head, with_slot, Open, Core, Writing, may, happens, last_table, IsFamily, Claimed, Slotted, Holds, LeftClosed, Spot, SpotState, Version}
use Rattle.mdv_shown.specs.Site.{Site, IsSite, site_area, place_on, spot_on}
use Rattle.mdv_shown.specs.Found.{IsOwn}
use Rattle.mdv_shown.specs.Shown.{ShowsPlaces, Shows}
use Rattle.mdv_shown.specs.Steps.{IsBodyOf, IsAbove, claim_at, last_number}
use Rattle.mdv_shown.specs.Laws.{Reads}

-- the image shows the world, and this replica of the database is found in it
pub record IsShownWith {Table : Type 0} (Spells : List ℕ → Table → Type 0) (site : Site) (identity : Identity) (tables : ℕ → Table) (w : Core) (image : Image) (line : SliceLine) (k : ℕ) (first : Master) (head : Head) : Type 0 where
  pub site_is : IsSite site
  pub shows : Shows Spells site identity tables w image
  pub own : IsOwn Spells site identity line k image first head

-- the place may be claimed, under this number
pub record IsClaimable (w : Core) (p : Spot) (number : ℕ) : Type 0 where
  pub fits : IsTrue (may w (Claimed p))
  pub number_is : claim_at w w.stage ≡ Some number
  pub small : number < 2 ^ 63

-- A claim is written to a replica that the image has.
pub record ClaimsGo (T : Type 0) : Type 0 where
  -- at each moment the image shows the world as it was, or with the place claimed
  pub moments : (read : List ℕ → Option T) (site : Site) (identity : Identity) (tables : ℕ → T) (w : Core) (old new : Image) (line : SliceLine) (k : ℕ) (first : Master) (head : Head) (number : ℕ)
      → IsShownWith (Reads read) site identity tables w old line k first head → IsClaimable w (spot_on line first.blocks k) number
      → MayClaim (place_on line first.blocks first.count k) number old new
      → Shows (Reads read) site identity tables w new ⊎ Shows (Reads read) site identity tables (happens w (Claimed (spot_on line first.blocks k))) new
  -- in the end with the place claimed, and the replica is found with that claim
  pub end : (read : List ℕ → Option T) (site : Site) (identity : Identity) (tables : ℕ → T) (w : Core) (old new : Image) (line : SliceLine) (k : ℕ) (first : Master) (head : Head) (number : ℕ)
      → IsShownWith (Reads read) site identity tables w old line k first head → IsClaimable w (spot_on line first.blocks k) number
      → Claims (place_on line first.blocks first.count k) number old new
      → IsShownWith (Reads read) site identity tables (happens w (Claimed (spot_on line first.blocks k))) new line k first (claimed_head head number)

-- A table begins to be written: it joins the family, and every image goes on showing the world.
abbrev pub TablesBegin : Type 0 → Type 0
TablesBegin T =
    (read : List ℕ → Option T) (site : Site) (identity : Identity) (tables : ℕ → T) (w : Core) (image : Image) (p : Spot) → IsFamily w
    → Shows (Reads read) site identity tables w image → Shows (Reads read) site identity tables (happens w (Slotted p LeftClosed)) image

-- the last table is being written, this is its record, and its mark is above all that the replica has
pub record IsLastOf {Table : Type 0} (Spells : List ℕ → Table → Type 0) (tables : ℕ → Table) (w : Core) (line : SliceLine) (k : ℕ) (first : Master) (head : Head) (bytes : ℕ) (body : List (List ℕ)) : Type 0 where
  pub boot : Option ℕ
  pub took : List Spot
  pub stage : w.stage ≡ Writing boot took
  pub body_is : IsBodyOf Spells (place_on line first.blocks first.count k) (last_table w).mark bytes body (tables (last_number w))
  pub above : IsAbove (last_table w).mark head

-- The last table is written to a slot of a replica that the image has.
pub record SlotsGo (T : Type 0) : Type 0 where
  -- at each moment of a spare slot's writing the image shows the world as it was, or with the table at the place
  pub moments : (read : List ℕ → Option T) (site : Site) (identity : Identity) (tables : ℕ → T) (w : Core) (old new : Image) (line : SliceLine) (k : ℕ) (first : Master) (head : Head) (slot : Slot) (bytes : ℕ) (body : List (List ℕ))
      → IsShownWith (Reads read) site identity tables w old line k first head → IsLastOf (Reads read) tables w line k first head bytes body → IsSpareSlot head slot
      → MayFill (place_on line first.blocks first.count k) slot (last_table w).mark bytes body old new
      → Shows (Reads read) site identity tables w new ⊎ Shows (Reads read) site identity tables (happens w (Slotted (spot_on line first.blocks k) Holds)) new
  -- in the end with the table at the place, and the replica is found with it
  pub end : (read : List ℕ → Option T) (site : Site) (identity : Identity) (tables : ℕ → T) (w : Core) (old new : Image) (line : SliceLine) (k : ℕ) (first : Master) (head : Head) (slot : Slot) (bytes : ℕ) (body : List (List ℕ))
      → IsShownWith (Reads read) site identity tables w old line k first head → IsLastOf (Reads read) tables w line k first head bytes body
      → Fills (place_on line first.blocks first.count k) slot (last_table w).mark bytes body old new
      → IsShownWith (Reads read) site identity tables (happens w (Slotted (spot_on line first.blocks k) Holds)) new line k first (with_slot head slot (Open (last_table w).mark bytes))

-- What an image shows rests on the blocks of the site's slices.
abbrev pub Frames : Type 0 → Type 0
Frames T =
    (read : List ℕ → Option T) (site : Site) (identity : Identity) (tables : ℕ → T) (family : List Version) (places : List SpotState)
    → RestsOn (site_area site) (ShowsPlaces (Reads read) site identity tables family places)
