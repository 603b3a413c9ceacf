-- The places that the tables of a database list: each has a replica as soon as a table was begun that lists it, as long as a boot may find that table.
use Rattle.std.specs.Prelude.{◌≡◌, ◌⊎◌, ℕ, true, List, Some, Contains}
use Rattle.mdv_store_law.specs.Log.{IsNotOlder}
use Rattle.mdv_config.specs.Lists.{places_of}
use Rattle.mdv_standing.specs.Below.{Core, Head, Identity, Image, IsOwn, Log, Master, Place, Reading, Site, SliceLine, Spot, Table, Version, place_at, place_on}
use Rattle.mdv_standing.specs.Matching.{IsDeleted}

-- a replica of the database is found at just that place, as long as the place is
pub record HasPlace (Spells : List ℕ → Table → Type 0) (site : Site) (identity : Identity) (image : Image) (place : Place) : Type 0 where
  pub line : SliceLine
  pub number : ℕ
  pub first : Master
  pub head : Head
  pub own : IsOwn Spells site identity line number image first head
  pub is : place ≡ (place_on line first.blocks first.count number).place

-- so it is with each place that a table of the log lists, answered or not, than which no answered one is newer
abbrev pub HavePlaces : (List ℕ → Table → Type 0) → Site → Identity → Log → Image → Type 0
HavePlaces Spells site identity log image = (v : Version) (place : Place) → Contains log.family v → IsNotOlder v.mark log.family → Contains (places_of v.table.plan.lists) place → HasPlace Spells site identity image place

-- the place holds a replica, whose newest table is that one
pub record HoldsNewest (w : Core) (p : Spot) (i : ℕ) : Type 0 where
  pub holds : (place_at w.places p).holds ≡ true
  pub newest : (place_at w.places p).newest ≡ Some i

-- no replica shows a table, so no boot goes past reading: that is what a creation leaves that came to no table
pub record IsUnshown (w : Core) : Type 0 where
  pub read : List Spot
  pub stage : w.stage ≡ Reading read
  pub none : (p : Spot) (i : ℕ) → HoldsNewest w p i → ⊥

-- no boot goes past reading
abbrev pub IsShut : Core → Type 0
IsShut w = IsUnshown w ⊎ IsDeleted w
