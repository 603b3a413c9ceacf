-- Where the volumes of a table of the geometry lie.
use Rattle.std.proofs.Common.{◌≡◌, true, ℕ, ◌<◌, Contains, Some, refl, ◌∙◌, ap, subst}
use Rattle.mdv_growing_law.proofs.Going.{OnSlices, map_alone, of_geometry}
use Rattle.mdv_layout_law.proofs.Laid.{tables_lie as maps_lie}
use Rattle.mdv_layout_law.specs.Layout.{kind_map, map_at, rows_map}
use Rattle.mdv_plan.specs.declared.volume.VolumeKind.TheVariants.{Mirror, Raid, Soft}
use Rattle.mdv_volumes.specs.Below.{Geometry, HasDriveBlock, IsOfGeometry, IsSound, Map, Stripe, Table, VolId, Volume, VolumeKind, plain_area}
use Rattle.mdv_volumes.proofs.Clear.{plain_beside}
use Rattle.mdv_volumes.proofs.Maps.{in_area, some_found}
use Rattle.mdv_volumes.specs.Tables.{AreLaid, IsMapOf, TablesLie}

-- what slices that volumes may lie on have is none where a boot looks
laid : (g : Geometry) (table : Table) → IsSound g → IsOfGeometry g table → AreLaid g table
laid g table sound is = let are = maps_lie g table sound is in record {
  disjoint = are.disjoint;
  apart = are.apart;
  clear = λ volume v map key drive block here. plain_beside g sound key drive block (are.plain volume v map drive block here);
  plain = are.plain;
  one = are.one;
  bounded = are.bounded;
}

-- the blocks of a volume are some that volumes may lie on
pub blocks_plain : (g : Geometry) (table : Table) → AreLaid g table → (volume : VolId) (v : Map) → IsMapOf g table volume v → (b drive block : ℕ) → b < v.blocks → HasDriveBlock (v.places b) drive block → plain_area g drive block ≡ true
blocks_plain g table laid volume v map b drive block lt has = laid.plain volume v map drive block (in_area v b drive block lt has)

kind_some : (g : Geometry) (table : Table) (kind : VolumeKind) → OnSlices kind → (v : Map) × (kind_map g table kind ≡ Some v)
kind_some g table (Stripe s) is = (rows_map g table.plan s.rows, refl)
kind_some g table (Mirror m) is = absurd is
kind_some g table (Raid r) is = absurd is
kind_some g table (Soft s) is = absurd is

-- each volume of a list has a map
some : (g : Geometry) (table : Table) (of : Volume) → IsOfGeometry g table → Contains table.plan.volumes of → (v : Map) × IsMapOf g table of.number v
some g table of is has =
    let are = of_geometry g table is in
    let found = some_found table.plan.volumes of has in
    let kind = kind_some g table found.0.kind (subst (λ (w : Volume). OnSlices w.kind) found.2.is (are found.2.at found.0 found.2.within)) in
    (kind.0, map_alone g table of.number are ∙ ap (map_at g table) found.1 ∙ kind.1)

pub tables_lie : TablesLie
tables_lie = record { laid = laid; some = some }
