-- The volumes of a table of a geometry lie apart.
use Rattle.std.specs.Prelude.{◌≡◌, ℕ, ◌^◌, ◌<◌, ◌&&◌, Bool, true, not}
use Rattle.std.specs.List.{list_any}
use Rattle.mdv_layout_law.specs.Below.{AreDisjoint, Area, Geometry, IsDisjoint, IsOfGeometry, IsOneCopy, IsSound, Map, SliceLine, Table, VolId, area_of_map, meets_db, range}
use Rattle.mdv_layout_law.specs.Layout.{IsMapOf}

-- a slice on which volumes may lie: it isn't set aside for replicas, and shares no block with one that is
abbrev pub takes_volumes : Geometry → SliceLine → Bool
takes_volumes g line = not line.at.db && not (meets_db g line.name)

-- the blocks of these slices
abbrev pub plain_area : Geometry → Area
plain_area g drive block = list_any (λ line. takes_volumes g line && range line.at.drive.0 line.at.start line.at.blocks drive block) g.slices

-- No block of a drive belongs to two blocks of a volume, nor to those of two volumes, nor to a slice with replicas.
pub record AreLaid (g : Geometry) (t : Table) : Type 0 where
  pub disjoint : (volume : VolId) (v : Map) → IsMapOf g t volume v → IsDisjoint v
  pub apart : (volume other : VolId) (v w : Map) → (volume ≡ other → ⊥) → IsMapOf g t volume v → IsMapOf g t other w → AreDisjoint v w
  pub plain : (volume : VolId) (v : Map) → IsMapOf g t volume v → (drive block : ℕ) → area_of_map v drive block ≡ true → plain_area g drive block ≡ true
  -- mirrors have more copies than one
  pub one : (volume : VolId) (v : Map) → IsMapOf g t volume v → IsOneCopy v
  pub bounded : (volume : VolId) (v : Map) → IsMapOf g t volume v → v.blocks < 2 ^ 63

abbrev pub TablesLie : Type 0
TablesLie = (g : Geometry) (t : Table) → IsSound g → IsOfGeometry g t → AreLaid g t
