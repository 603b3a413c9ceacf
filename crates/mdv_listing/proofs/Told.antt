-- The listing of a table whose volumes all lie on slices is the lines of the volumes that it tells.
use Rattle.std.proofs.Common.{◌≡◌, ◌==◌, ℕ, Option, None, Some, AllPairs, refl, sym, ◌∙◌, ap, List, [], ◌∷◌, ◌++◌, append-nil}
use Rattle.std.proofs.lemmas.List.Elements.{All-weaker}
use Rattle.std.specs.List.{All, find, flat_map}
use Rattle.mdv_base.specs.declared.name.Named.TheVariants.{Volume as NamedVolume, Pool as NamedPool}
use Rattle.mdv_config.specs.Table.{IsKindOf, IsPartOn, IsRowOf, row_depth}
use Rattle.mdv_plan.specs.Named.{base_below, component_below, kind_below, row_below}
use Rattle.mdv_plan.specs.declared.pool.Pool.{Pool as OnePool}
use Rattle.mdv_plan.specs.declared.volume.Base.{Base}
use Rattle.mdv_plan.specs.declared.volume.Base.TheVariants as base
use Rattle.mdv_plan.specs.declared.volume.Component.{Component}
use Rattle.mdv_plan.specs.declared.volume.Row.{Row}
use Rattle.mdv_plan.specs.declared.volume.VolumeKind.{VolumeKind}
use Rattle.mdv_plan.specs.declared.volume.VolumeKind.TheVariants.{Stripe}
use Rattle.mdv_print.specs.Order.{uppermost}
use Rattle.mdv_print.specs.Text.{found_line as found_pool, named_text, pool_line, volumes_text}
use Rattle.mdv_listing.specs.Below.{Geometry, IsOfGeometry, Named, Plan, Table, Volume, names_text, volume_line, volume_of}
use Rattle.mdv_listing.specs.Listing.{found_line, line_for, listing_of, name_line}
use Rattle.mdv_listing.proofs.Flat.{IsAlone, IsBelow, all_in_order, flat_none, found_list, one_alone}

on_no_volume : (g : Geometry) (blocks : ℕ) (c : Component) (b : Base) → IsPartOn g blocks c b → base_below b ≡ []
on_no_volume g blocks c (base.Slice s) is = refl
on_no_volume g blocks c (base.Volume v) is = absurd is

row_alone : (g : Geometry) (row : Row) → IsRowOf g row → row_below row ≡ []
row_alone g row is =
    let P = λ (c : Component). IsPartOn g (row_depth row) c c.on in
    flat_none component_below row.components (All-weaker P (λ (c : Component). component_below c ≡ []) (λ c on. on_no_volume g (row_depth row) c c.on on) row.components is.each)

kind_alone : (g : Geometry) (kind : VolumeKind) → IsKindOf g kind → kind_below kind ≡ []
kind_alone g (Stripe s) is = flat_none row_below s.rows (All-weaker (IsRowOf g) (λ (row : Row). row_below row ≡ []) (row_alone g) s.rows is.each)
kind_alone g other is = absurd is

all_alone : (g : Geometry) (t : Table) → IsOfGeometry g t → All IsAlone t.plan.volumes
all_alone g t is = All-weaker (λ (v : Volume). IsKindOf g v.kind) IsAlone (λ v of. kind_alone g v.kind of) t.plan.volumes is.kinds

-- a plan whose volumes stand in order, each alone, and without pools: of its places nothing is asked
pub record IsTellable (p : Plan) : Type 0 where
  pub ascending : AllPairs IsBelow p.volumes
  pub alone : All IsAlone p.volumes
  pub pools : p.pools ≡ []

pub tellable : (g : Geometry) (t : Table) → IsOfGeometry g t → IsTellable t.plan
tellable g t is = record { ascending = is.numbers.ascending; alone = all_alone g t is; pools = is.alone.pools }

pub all_lines : (p : Plan) → IsTellable p → listing_of p [] ≡ flat_map line_for p.volumes
all_lines p is =
    let text = volumes_text None p (uppermost p) in
    ap (λ (qs : List OnePool). text ++ flat_map (pool_line None) qs) is.pools
    ∙ append-nil text
    ∙ ap (flat_map (volume_line None)) (all_in_order p is.ascending is.alone)

pub all_told : (g : Geometry) (t : Table) → IsOfGeometry g t → listing_of t.plan [] ≡ flat_map line_for t.plan.volumes
all_told g t is = all_lines t.plan (tellable g t is)

found_told : (o : Option Volume) → flat_map (volume_line None) (found_list o) ≡ found_line o
found_told None = refl
found_told (Some v) = append-nil (line_for v)

name_told : (p : Plan) (name : Named) → IsTellable p → named_text None p name ≡ name_line p name
name_told p (NamedVolume v) is = ap (flat_map (volume_line None)) (one_alone p v is.alone) ∙ found_told (volume_of p v)
name_told p (NamedPool q) is = ap (λ (qs : List OnePool). found_pool None (find (λ (x : OnePool). x.number.0 == q.0) qs)) is.pools

pub names_told : (p : Plan) (names : List Named) → IsTellable p → names_text None p names ≡ flat_map (name_line p) names
names_told p [] is = refl
names_told p (name ∷ names) is =
    ap (λ (l : List ℕ). l ++ names_text None p names) (name_told p name is)
    ∙ ap (λ (l : List ℕ). name_line p name ++ l) (names_told p names is)

pub named_told : (g : Geometry) (t : Table) (name : Named) (names : List Named) → IsOfGeometry g t → listing_of t.plan (name ∷ names) ≡ flat_map (name_line t.plan) (name ∷ names)
named_told g t name names is = names_told t.plan (name ∷ names) (tellable g t is)

-- volumes alone are told
line_same : (p q : Plan) → p.volumes ≡ q.volumes → (name : Named) → name_line p name ≡ name_line q name
line_same p q same (NamedVolume v) = ap (λ (vs : List Volume). found_line (find (λ (w : Volume). w.number.0 == v.0) vs)) same
line_same p q same (NamedPool r) = refl

pub same_listing : (p q : Plan) (names : List Named) → IsTellable p → IsTellable q → p.volumes ≡ q.volumes → listing_of p names ≡ listing_of q names
same_listing p q [] is its same = all_lines p is ∙ ap (flat_map line_for) same ∙ sym (all_lines q its)
same_listing p q (name ∷ names) is its same =
    names_told p (name ∷ names) is ∙ (λ i. flat_map (λ (n : Named). line_same p q same n i) (name ∷ names)) ∙ sym (names_told q (name ∷ names) its)
