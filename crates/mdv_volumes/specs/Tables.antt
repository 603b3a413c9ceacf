-- Where the volumes of a table lie: the map of each of them.
use Rattle.std.specs.Prelude.{◌≡◌, ◌^◌, ◌<◌, ℕ, true, Contains}
use Rattle.mdv_volumes.specs.Below.{AreDisjoint, Geometry, IsBeside, IsDisjoint, IsOfGeometry, IsOneCopy, IsSound, Map, Table, VolId, Volume, area_of_map, plain_area}
pub use Rattle.mdv_layout_law.specs.Layout.{IsMapOf, map_of}

-- no slice on which a boot looks for replicas, of whatever key, has a block of the map
abbrev pub IsClear : Geometry → Map → Type 0
IsClear g v = IsBeside g (area_of_map v)

-- The volumes of a table: no block of a drive belongs to two blocks of one, nor to those of two volumes, nor to a slice with replicas; all lie on slices
-- that volumes may lie on.
pub record AreLaid (g : Geometry) (table : Table) : Type 0 where
  pub disjoint : (volume : VolId) (v : Map) → IsMapOf g table volume v → IsDisjoint v
  pub apart : (volume other : VolId) (v w : Map) → (volume ≡ other → ⊥) → IsMapOf g table volume v → IsMapOf g table other w → AreDisjoint v w
  pub clear : (volume : VolId) (v : Map) → IsMapOf g table volume v → IsClear g v
  pub plain : (volume : VolId) (v : Map) → IsMapOf g table volume v → (drive block : ℕ) → area_of_map v drive block ≡ true → plain_area g drive block ≡ true
  -- mirrors have more copies than one
  pub one : (volume : VolId) (v : Map) → IsMapOf g table volume v → IsOneCopy v
  pub bounded : (volume : VolId) (v : Map) → IsMapOf g table volume v → v.blocks < 2 ^ 63

-- tables of the geometry
pub record TablesLie : Type 0 where
  -- their volumes lie apart
  pub laid : (g : Geometry) (table : Table) → IsSound g → IsOfGeometry g table → AreLaid g table
  -- each of them has a map: none is used by another one yet
  pub some : (g : Geometry) (table : Table) (of : Volume) → IsOfGeometry g table → Contains table.plan.volumes of → (v : Map) × IsMapOf g table of.number v
