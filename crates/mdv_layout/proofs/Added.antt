-- A row of a table of a geometry, laid behind the others.
use Rattle.std.proofs.Common.{◌≡◌, ◌⊎◌, ℕ, ◌+◌, ◌*◌, ◌/◌, ◌%◌, ◌^◌, ◌<◌, ◌≤◌, List, [], ◌∷◌, ◌++◌, length, map, refl, sym, ◌∙◌, ap, subst, arith}
use Rattle.std.proofs.lemmas.List.{length-map}
use Rattle.mdv_layout.specs.Below.{Component, Geometry, IsRowOf, IsSound, Map, Plan, Row, first_blocks, maps_of, row_depth, row_map, striped, width}
use Rattle.mdv_layout.specs.Leaves.{leaf_map, leaf_of}
use Rattle.mdv_layout.specs.Layouts.{IsLayout, row_maps}
use Rattle.mdv_layout.specs.declared.layout.Layout.{Layout}
use Rattle.mdv_layout.specs.declared.row.LaidRow.{LaidRow}
use Rattle.mdv_layout.proofs.Adding.{IsAdded, maps_are}
use Rattle.mdv_layout.proofs.Leaves.{columns_deep, columns_lie, depth_short, leaves_well}
use Rattle.mdv_layout.proofs.Stripes.{blocks_are, stripe_is, times_few}

some_first : (cs : List Component) → 0 < first_blocks cs → 0 < length cs
some_first [] some = absurd (omega arith)
some_first (c ∷ cs) some = omega arith

module _ (g : Geometry) (sound : IsSound g) (row : Row) (is : IsRowOf g row) where
  abbrev depth : ℕ
  depth = row_depth row

  abbrev columns : List Map
  columns = maps_of leaf_map (map (leaf_of g) row.components)

  as_many : length columns ≡ width row
  as_many = length-map (map (leaf_of g) row.components) leaf_map ∙ length-map row.components (leaf_of g)

  some : 0 < width row
  some = some_first row.components is.some

  units : (length columns ≡ 1) ⊎ (depth % row.interlace ≡ 0)
  units = subst (λ (n : ℕ). (n ≡ 1) ⊎ (depth % row.interlace ≡ 0)) (sym as_many) is.units

  short : depth ≤ 2 ^ 40
  short = depth_short g sound depth row.components some is.each

  many : (striped row.interlace columns).blocks ≡ width row * depth
  many = blocks_are depth row.interlace columns (omega (arith, as_many, some)) (columns_deep g sound depth row.components is.each) units ∙ ap (λ (n : ℕ). n * depth) as_many

  -- the row as it is laid behind the others
  pub record IsLaid (old new : Layout) (laid : LaidRow) : Type 0 where
    pub leaves : new.leaves.items ≡ old.leaves.items ++ map (leaf_of g) row.components
    pub rows : new.rows.items ≡ old.rows.items ++ laid ∷ []
    pub start : laid.start ≡ old.blocks
    pub first : laid.first ≡ length old.leaves.items
    pub count : laid.width ≡ width row
    pub interlace : laid.interlace ≡ row.interlace
    pub units : laid.units ≡ depth / row.interlace
    pub blocks : new.blocks ≡ old.blocks + width row * depth

  -- by what is counted of it
  pub laid_by : (old new : Layout) (cs : List Component) (first deep interlace : ℕ) → cs ≡ row.components → first ≡ length old.leaves.items → deep ≡ first_blocks cs → interlace ≡ row.interlace
      → new.leaves.items ≡ old.leaves.items ++ map (leaf_of g) cs → new.blocks ≡ old.blocks + length cs * deep
      → new.rows.items ≡ old.rows.items ++ record { start = old.blocks; first = first; width = length cs; interlace = interlace; units = deep / interlace } ∷ []
      → IsLaid old new (record { start = old.blocks; first = first; width = length cs; interlace = interlace; units = deep / interlace })
  laid_by old new cs first deep interlace same begins is_deep deals leaves blocks rows =
      let number : length cs ≡ width row = ap length same in
      let all : deep ≡ depth = is_deep ∙ ap first_blocks same in
      record {
        leaves = leaves ∙ ap (λ (ds : List Component). old.leaves.items ++ map (leaf_of g) ds) same;
        rows = rows;
        start = refl;
        first = begins;
        count = number;
        interlace = deals;
        units = ap (λ (n : ℕ). n / interlace) all ∙ ap (λ (n : ℕ). depth / n) deals;
        blocks = blocks ∙ ap (λ (n : ℕ). old.blocks + n * deep) number ∙ ap (λ (n : ℕ). old.blocks + width row * n) all;
      }

  module _ (old new : Layout) (laid : LaidRow) (room : length old.leaves.items + width row ≤ 100) (lies : IsLaid old new laid) where
    pub is_added : IsAdded old (map (leaf_of g) row.components) laid new
    is_added =
        let number = length-map row.components (leaf_of g) in
        let deep = columns_deep g sound depth row.components is.each in
        let stripe = stripe_is depth row.interlace columns (omega (arith, as_many, some)) (omega (arith, as_many, room)) deep units is.some short (record { least = is.least; most = is.most }) in
        let same : striped laid.interlace columns ≡ striped row.interlace columns = ap (λ (n : ℕ). striped n columns) lies.interlace in
        record {
          leaves = lies.leaves;
          rows = lies.rows;
          start = lies.start;
          first = lies.first;
          width = lies.count ∙ sym number;
          some = omega (arith, number, some);
          room = omega (arith, number, room);
          blocks = lies.blocks ∙ ap (λ (n : ℕ). old.blocks + n) (sym (ap (λ (v : Map). v.blocks) same ∙ many));
          short = (let few = times_few depth row.interlace (width row) (width row) (omega arith) short in omega (arith, number, ap (λ (v : Map). v.blocks) same, many));
          well = leaves_well g sound depth row.components is.each;
          stripe = rw (lies.interlace, lies.units) stripe;
        }

    -- it lies where the row does
    pub row_lies : IsLayout old → (p : Plan) → row_maps new ≡ row_maps old ++ row_map g p row ∷ []
    row_lies well p =
        let here : striped laid.interlace columns ≡ row_map g p row = ap (λ (n : ℕ). striped n columns) lies.interlace ∙ ap (striped row.interlace) (columns_lie g sound depth p row.components is.each) in
        maps_are old new (map (leaf_of g) row.components) laid well is_added ∙ ap (λ (v : Map). row_maps old ++ v ∷ []) here

  -- there is room for its blocks
  pub few_blocks : (old : Layout) (cs : List Component) (deep : ℕ) → IsLayout old → length old.leaves.items + width row ≤ 100 → cs ≡ row.components → deep ≡ first_blocks cs → old.blocks + length cs * deep ≤ 100 * 2 ^ 40
  few_blocks old cs deep well room same is_deep =
      let less = times_few depth row.interlace (width row) (width row) (omega arith) short in
      let before = well.short in
      let all : length cs * deep ≡ width row * depth = ap (λ (n : ℕ). n * deep) (ap length same) ∙ ap (λ (n : ℕ). width row * n) (is_deep ∙ ap first_blocks same) in
      omega arith
