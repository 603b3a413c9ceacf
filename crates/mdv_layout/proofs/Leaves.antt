-- Leaves of components: they lie where the components do.
use Rattle.std.proofs.Common.{◌≡◌, ℕ, ◌^◌, ◌≤◌, ◌<◌, List, [], ◌∷◌, length, map, Option, Some, refl, sym, ◌∙◌, ap, subst, arith}
use Rattle.std.specs.Prelude.{All}
use Rattle.std.proofs.lemmas.List.Elements.{All-cons, All-head, All-nil, All-tail}
use Rattle.mdv_name.proofs.Finding.{slice_at-some}
use Rattle.mdv_layout.specs.Below.{Base, Component, Geometry, IsPartOn, IsSound, Map, Plan, Slice, SliceAt, Volume, at_map, component_map, maps_of, slice_at}
use Rattle.mdv_layout.specs.Leaves.{IsLeaf, leaf_in, leaf_map, leaf_of, leaf_on}
use Rattle.mdv_layout.specs.declared.leaf.Leaf.{Leaf}

-- the leaf of a component that has so many blocks
pub record IsLeafOf (depth : ℕ) (leaf : Leaf) : Type 0 where
  pub well : IsLeaf leaf
  pub blocks : (leaf_map leaf).blocks ≡ depth
  pub short : depth ≤ 2 ^ 40

module _ (g : Geometry) (sound : IsSound g) (depth : ℕ) where
  leaf_is : (c : Component) (base : Base) → IsPartOn g depth c base → IsLeafOf depth (leaf_on g c base)
  leaf_is c (Slice slice) part =
      let found : slice_at g.slices slice ≡ Some part.at = (slice_at-some g slice part.at sound).1 part.has in
      let end = (sound.each slice part.at part.has).within in
      let start = part.lies.start in
      let count = part.lies.blocks_are in
      let room = part.lies.within in
      record {
        well = subst (λ (o : Option SliceAt). IsLeaf (leaf_in o c)) (sym found) (omega arith);
        blocks = subst (λ (o : Option SliceAt). (leaf_map (leaf_in o c)).blocks ≡ depth) (sym found) count;
        short = omega arith;
      }
  leaf_is c (Volume volume) part = absurd part

  -- it lies where the component does
  leaf_lies : (p : Plan) (c : Component) (base : Base) → IsPartOn g depth c base → leaf_map (leaf_on g c base) ≡ component_map g p c base
  leaf_lies p c (Slice slice) part =
      let found : slice_at g.slices slice ≡ Some part.at = (slice_at-some g slice part.at sound).1 part.has in
      subst (λ (o : Option SliceAt). leaf_map (leaf_in o c) ≡ at_map o c.start c.blocks) (sym found) refl
  leaf_lies p c (Volume volume) part = absurd part

  abbrev IsPartOf : Component → Type 0
  IsPartOf c = IsPartOn g depth c c.on

  -- the columns of a row
  pub columns_lie : (p : Plan) (cs : List Component) → All IsPartOf cs → maps_of leaf_map (map (leaf_of g) cs) ≡ map (λ (c : Component). component_map g p c c.on) cs
  columns_lie p [] each = refl
  columns_lie p (c ∷ cs) each =
      let first = leaf_lies p c c.on (All-head IsPartOf c cs each) in
      let rest = columns_lie p cs (All-tail IsPartOf c cs each) in
      ap (λ (v : Map). v ∷ maps_of leaf_map (map (leaf_of g) cs)) first ∙ ap (λ (vs : List Map). component_map g p c c.on ∷ vs) rest

  abbrev IsDeep : Map → Type 0
  IsDeep v = v.blocks ≡ depth

  pub columns_deep : (cs : List Component) → All IsPartOf cs → All IsDeep (maps_of leaf_map (map (leaf_of g) cs))
  columns_deep [] each = All-nil IsDeep
  columns_deep (c ∷ cs) each =
      All-cons IsDeep (leaf_map (leaf_of g c)) (maps_of leaf_map (map (leaf_of g) cs)) (leaf_is c c.on (All-head IsPartOf c cs each)).blocks (columns_deep cs (All-tail IsPartOf c cs each))

  pub leaves_well : (cs : List Component) → All IsPartOf cs → All IsLeaf (map (leaf_of g) cs)
  leaves_well [] each = All-nil IsLeaf
  leaves_well (c ∷ cs) each = All-cons IsLeaf (leaf_of g c) (map (leaf_of g) cs) (leaf_is c c.on (All-head IsPartOf c cs each)).well (leaves_well cs (All-tail IsPartOf c cs each))

  pub depth_short : (cs : List Component) → 0 < length cs → All IsPartOf cs → depth ≤ 2 ^ 40
  depth_short [] some each = absurd (omega arith)
  depth_short (c ∷ cs) some each = (leaf_is c c.on (All-head IsPartOf c cs each)).short
