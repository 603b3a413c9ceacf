-- A row behind the others.
use Rattle.std.proofs.Common.{◌≡◌, ℕ, ◌+◌, ◌-◌, ◌*◌, ◌^◌, ◌<◌, ◌≤◌, inl, inr, List, [], ◌∷◌, ◌++◌, length, map, drop, take, get_or, sym, ◌∙◌, ap, subst, arith}
use Rattle.std.specs.Prelude.{All}
use Rattle.std.proofs.lemmas.Bool.{cases_lt}
use Rattle.std.proofs.lemmas.List.{drop-append-le, drop_at, get_or_append_left, get_or_push, length-append, length-drop, length-map, length_push, map_push, take-append-le, take_all}
use Rattle.std.proofs.lemmas.List.Elements.{All-append, All-push, All-same}
use Rattle.std.proofs.lemmas.List.Sums.{sum_by_push}
use Rattle.mdv_layout_law.proofs.Chained.{chained_lie}
use Rattle.mdv_layout_law.proofs.Telling.{map_same}
use Rattle.mdv_layout.specs.Below.{IsStripe, Map, blocks_in, chained, maps_of, striped}
use Rattle.mdv_layout.specs.Leaves.{IsLeaf, leaf_map}
use Rattle.mdv_layout.specs.Layouts.{IsLayout, IsRow, blocks_before, laid_map, layout_map, leaves_of, row_maps}
use Rattle.mdv_layout.specs.declared.layout.Layout.{Layout}
use Rattle.mdv_layout.specs.declared.leaf.Leaf.{Leaf}
use Rattle.mdv_layout.specs.declared.row.LaidRow.{LaidRow}
use Rattle.mdv_layout.proofs.Rows.{before_all, before_front}

module _ (leaves more : List Leaf) where
  -- the leaves of a row stay where others come behind them
  leaves_stay : (row : LaidRow) → row.first + row.width ≤ length leaves → leaves_of (leaves ++ more) row ≡ leaves_of leaves row
  leaves_stay row within =
      let count = row.first + row.width - row.first in
      let behind = drop-append-le row.first leaves more (omega arith) in
      ap (take count) behind ∙ take-append-le count (drop row.first leaves) more (omega (arith, length-drop row.first leaves))

  -- and those of the row that comes are all others
  leaves_come : (row : LaidRow) → row.first ≡ length leaves → row.width ≡ length more → leaves_of (leaves ++ more) row ≡ more
  leaves_come row first width =
      let count = row.first + row.width - row.first in
      ap (take count) (drop_at leaves more row.first (sym first)) ∙ take_all count more (omega arith)

  row_stays : (row : LaidRow) → IsRow leaves row → IsRow (leaves ++ more) row
  row_stays row is = record {
    listed = (let within = is.listed in omega (arith, length-append leaves more));
    stripe = subst (λ (ls : List Leaf). IsStripe row.interlace row.units (maps_of leaf_map ls)) (sym (leaves_stay row is.listed)) is.stripe;
  }

  map_stays : (row : LaidRow) → IsRow leaves row → laid_map (leaves ++ more) row ≡ laid_map leaves row
  map_stays row is = ap (λ (ls : List Leaf). striped row.interlace (maps_of leaf_map ls)) (leaves_stay row is.listed)

  maps_stay : (rows : List LaidRow) → All (IsRow leaves) rows → map (laid_map (leaves ++ more)) rows ≡ map (laid_map leaves) rows
  maps_stay rows are = map_same (laid_map (leaves ++ more)) (laid_map leaves) rows (λ k d lt. map_stays (get_or rows k d) (are k d lt))

-- the layout with the leaves of a row and the row itself behind the others
pub record IsAdded (old : Layout) (more : List Leaf) (row : LaidRow) (new : Layout) : Type 0 where
  pub leaves : new.leaves.items ≡ old.leaves.items ++ more
  pub rows : new.rows.items ≡ old.rows.items ++ row ∷ []
  pub start : row.start ≡ old.blocks
  pub first : row.first ≡ length old.leaves.items
  pub width : row.width ≡ length more
  pub some : 0 < length more
  pub room : length old.leaves.items + length more ≤ 100
  pub blocks : new.blocks ≡ old.blocks + (striped row.interlace (maps_of leaf_map more)).blocks
  pub short : (striped row.interlace (maps_of leaf_map more)).blocks ≤ length more * 2 ^ 40
  pub well : All IsLeaf more
  pub stripe : IsStripe row.interlace row.units (maps_of leaf_map more)

module _ (old new : Layout) (more : List Leaf) (row : LaidRow) (is : IsLayout old) (added : IsAdded old more row new) where
  abbrev olds : List Leaf
  olds = old.leaves.items

  abbrev rows : List LaidRow
  rows = old.rows.items

  abbrev laid : Map
  laid = striped row.interlace (maps_of leaf_map more)

  come : leaves_of (olds ++ more) row ≡ more
  come = leaves_come olds more row added.first added.width

  here : laid_map (olds ++ more) row ≡ laid
  here = ap (λ (ls : List Leaf). striped row.interlace (maps_of leaf_map ls)) come

  -- the maps of the rows, and that of the row behind them
  pub maps_are : row_maps new ≡ row_maps old ++ laid ∷ []
  maps_are =
      ap (λ (ls : List Leaf). map (laid_map ls) new.rows.items) added.leaves
      ∙ ap (map (laid_map (olds ++ more))) added.rows
      ∙ map_push (laid_map (olds ++ more)) rows row
      ∙ ap (λ (vs : List Map). vs ++ laid_map (olds ++ more) row ∷ []) (maps_stay olds more rows is.rows)
      ∙ ap (λ (v : Map). row_maps old ++ v ∷ []) here

  as_many : length (row_maps old) ≡ length rows
  as_many = length-map rows (laid_map olds)

  new_row : IsRow (olds ++ more) row
  new_row = record {
    listed = (let first = added.first in let width = added.width in omega (arith, length-append olds more));
    stripe = subst (λ (ls : List Leaf). IsStripe row.interlace row.units (maps_of leaf_map ls)) (sym come) added.stripe;
  }

  rows_are : All (IsRow new.leaves.items) new.rows.items
  rows_are =
      subst (λ (ls : List Leaf). All (IsRow ls) new.rows.items) (sym added.leaves)
      (All-same (IsRow (olds ++ more)) new.rows.items (rows ++ row ∷ []) added.rows
      (All-push (IsRow (olds ++ more)) rows row (λ k d lt. row_stays olds more (get_or rows k d) (is.rows k d lt)) new_row))

  starts_at : (i : ℕ) (d : LaidRow) → i < length (rows ++ row ∷ []) → (get_or (rows ++ row ∷ []) i d).start ≡ blocks_before (row_maps old ++ laid ∷ []) i
  starts_at i d lt = elim (cases_lt i (length rows)) [
    | inl below ↦
        ap (λ (r : LaidRow). r.start) (get_or_append_left rows (row ∷ []) d i below)
        ∙ is.starts i d below
        ∙ sym (before_front (row_maps old) (laid ∷ []) i (omega (arith, as_many)))
    | inr le ↦
        let last : i ≡ length rows = omega (arith, length_push rows row) in
        ap (λ (r : LaidRow). r.start) (get_or_push rows row d i (sym last))
        ∙ added.start ∙ is.blocks
        ∙ sym (before_all (row_maps old) i (omega (arith, as_many)))
        ∙ sym (before_front (row_maps old) (laid ∷ []) i (omega (arith, as_many)))
  ]

  starts_are : (i : ℕ) (d : LaidRow) → i < length new.rows.items → (get_or new.rows.items i d).start ≡ blocks_before (row_maps new) i
  starts_are i d lt =
      let listed = subst (λ (rs : List LaidRow). i < length rs) added.rows lt in
      ap (λ (rs : List LaidRow). (get_or rs i d).start) added.rows ∙ starts_at i d listed ∙ ap (λ (vs : List Map). blocks_before vs i) (sym maps_are)

  blocks_are : new.blocks ≡ (layout_map new).blocks
  blocks_are =
      let total = chained_lie.blocks (row_maps old) in
      let whole = chained_lie.blocks (row_maps old ++ laid ∷ []) in
      let all : new.blocks ≡ (chained (row_maps old ++ laid ∷ [])).blocks = omega (arith, added.blocks, is.blocks, sum_by_push blocks_in (row_maps old) laid) in
      all ∙ ap (λ (vs : List Map). (chained vs).blocks) (sym maps_are)

  count : length new.leaves.items ≡ length olds + length more
  count = ap length added.leaves ∙ length-append olds more

  pub stays_well : IsLayout new
  stays_well = record {
    leaves = All-same IsLeaf new.leaves.items (olds ++ more) added.leaves (All-append IsLeaf olds more is.leaves added.well);
    rows = rows_are;
    starts = starts_are;
    few = (let room = added.room in omega (arith, count));
    fewer = (let some = added.some in let fewer = is.fewer in omega (arith, count, ap length added.rows, length_push rows row));
    blocks = blocks_are;
    short = (let less = added.short in let short = is.short in omega (arith, count, added.blocks));
  }
