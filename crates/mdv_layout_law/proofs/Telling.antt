-- A map is of the volumes alone.
use Rattle.std.proofs.Common.{◌≡◌, ◌==◌, Bool, if◌then◌else◌, List, [], ◌∷◌, map, find, get_or, Option, None, Some, refl, ◌∙◌, ap}
use Rattle.std.specs.Prelude.{All}
use Rattle.std.specs.List.{list_any}
use Rattle.std.proofs.lemmas.List.Elements.{All-head, All-tail}
use Rattle.mdv_plan.specs.Parents.{names_volume}
use Rattle.mdv_stripe.specs.Stripes.{striped}
use Rattle.mdv_layout_law.specs.Below.{Base, Component, Geometry, Map, Mirror, OneSoft, OneVolume, Plan, Raid, Row, Slice, Soft, Stripe, Table, VolId, Volume, VolumeKind, has_parent, soft_on, volume_of}
use Rattle.mdv_layout_law.specs.Chained.{chained, front_map}
use Rattle.mdv_layout_law.specs.Layout.{VolumesTell, below_kind, below_map, component_map, kind_map, leaf_of, map_at, map_of, row_map, rows_map, soft_partition}

-- functions that agree on each of a list
pub map_same : {X Y : Type 0} (f h : X → Y) (xs : List X) → All (λ (x : X). f x ≡ h x) xs → map f xs ≡ map h xs
map_same f h [] same = refl
map_same {Y = Y} f h (x ∷ xs) same =
    ap (λ (y : Y). y ∷ map f xs) (All-head (λ z. f z ≡ h z) x xs same) ∙ ap (λ (ys : List Y). h x ∷ ys) (map_same f h xs (All-tail (λ z. f z ≡ h z) x xs same))

-- rows have one map in two plans where their components have
pub rows_same : (g : Geometry) (p q : Plan) (rows : List Row) → All (λ (row : Row). All (λ (c : Component). component_map g p c c.on ≡ component_map g q c c.on) row.components) rows → rows_map g p rows ≡ rows_map g q rows
rows_same g p q rows same = ap chained (map_same (row_map g p) (row_map g q) rows (λ k d lt. let row = get_or rows k d in
    ap (striped row.interlace) (map_same (λ (c : Component). component_map g p c c.on) (λ (c : Component). component_map g q c c.on) row.components (same k d lt))))

module _ (g : Geometry) (p q : Plan) (same : p.volumes ≡ q.volumes) where
  volume_same : (volume : VolId) → volume_of p volume ≡ volume_of q volume
  volume_same volume = ap (find (λ (w : OneVolume). w.number.0 == volume.0)) same

  component_same : (c : Component) (base : Base) → component_map g p c base ≡ component_map g q c base
  component_same c (Slice slice) = refl
  component_same c (Volume volume) = ap (λ (o : Option OneVolume). front_map c.blocks (leaf_of g o)) (volume_same volume)

  all_rows : (rows : List Row) → rows_map g p rows ≡ rows_map g q rows
  all_rows rows = rows_same g p q rows (λ k d lt i c within. component_same (get_or (get_or rows k d).components i c) (get_or (get_or rows k d).components i c).on)

  below_same : (o : Option OneVolume) → below_map g p o ≡ below_map g q o
  below_same None = refl
  below_same (Some of) = by of.kind where
    by : (kind : VolumeKind) → below_kind g p kind ≡ below_kind g q kind
    by (Stripe s) = all_rows s.rows
    by (Mirror m) = refl
    by (Raid r) = refl
    by (Soft s) = refl

  soft_same : (soft : OneSoft) (base : Base) → soft_partition g p soft base ≡ soft_partition g q soft base
  soft_same soft (Slice slice) = refl
  soft_same soft (Volume volume) =
      ap (λ (v : Map). soft_on v soft.extents) (ap (below_map g p) (volume_same volume) ∙ below_same (volume_of q volume))

  parent_same : (volume : VolId) → has_parent p volume ≡ has_parent q volume
  parent_same volume = ap (list_any (λ (w : OneVolume). names_volume volume w.kind)) same

module _ (g : Geometry) (t u : Table) (same : t.plan.volumes ≡ u.plan.volumes) where
  kind_same : (kind : VolumeKind) → kind_map g t kind ≡ kind_map g u kind
  kind_same (Stripe s) = ap Some (all_rows g t.plan u.plan same s.rows)
  kind_same (Mirror m) = refl
  kind_same (Raid r) = refl
  kind_same (Soft s) = ap Some (soft_same g t.plan u.plan same s s.base)

  at_same : (o : Option OneVolume) → map_at g t o ≡ map_at g u o
  at_same None = refl
  at_same (Some of) = kind_same of.kind

  map_same_of : (volume : VolId) → map_of g t volume ≡ map_of g u volume
  map_same_of volume =
      let found = ap (map_at g t) (volume_same g t.plan u.plan same volume) ∙ at_same (volume_of u.plan volume) in
      ap (λ (used : Bool). if used then None else map_at g t (volume_of t.plan volume)) (parent_same g t.plan u.plan same volume)
      ∙ ap (λ (m : Option Map). if has_parent u.plan volume then None else m) found

pub volumes_tell : VolumesTell
volumes_tell g t u volume same = map_same_of g t u same volume
