-- Layouts: the rows of a volume, each a stripe over some of its leaves, one behind another.
use Rattle.std.specs.Prelude.{◌≡◌, ℕ, ◌+◌, ◌*◌, ◌<◌, ◌≤◌, ◌^◌, List, length, map, sum_by, take, slice_index_or, slice_range}
use Rattle.std.specs.List.{All}
use Rattle.mdv_layout.specs.Below.{IsStripe, LiesAs, Map, blocks_in, chained, maps_of, striped}
use Rattle.mdv_layout.specs.Leaves.{IsLeaf, leaf_map}
use Rattle.mdv_layout.specs.declared.layout.Layout.{Layout}
use Rattle.mdv_layout.specs.declared.leaf.Leaf.{Leaf}
use Rattle.mdv_layout.specs.declared.row.LaidRow.{LaidRow}

-- the leaves of a row: so many, one behind another
abbrev pub leaves_of : List Leaf → LaidRow → List Leaf
leaves_of leaves row = slice_range leaves row.first (row.first + row.width)

abbrev pub columns_of : List Leaf → LaidRow → List Map
columns_of leaves row = maps_of leaf_map (leaves_of leaves row)

-- where the blocks of a row lie: it is a stripe over its leaves
abbrev pub laid_map : List Leaf → LaidRow → Map
laid_map leaves row = striped row.interlace (columns_of leaves row)

-- what stands for a row that isn't there
abbrev pub no_row : LaidRow
no_row = record { start = 0; first = 0; width = 0; interlace = 0; units = 0 }

-- the maps of the rows, in order
abbrev pub row_maps : Layout → List Map
row_maps layout = map (laid_map layout.leaves.items) layout.rows.items

-- where the blocks of the volume lie: those of each row behind those of the rows before it
abbrev pub layout_map : Layout → Map
layout_map layout = chained (row_maps layout)

-- how many blocks so many of the first ones have together
abbrev pub blocks_before : List Map → ℕ → ℕ
blocks_before maps count = sum_by blocks_in (take count maps)

-- its leaves are listed, and a stripe can be made of them
pub record IsRow (leaves : List Leaf) (row : LaidRow) : Type 0 where
  pub listed : row.first + row.width ≤ length leaves
  pub stripe : IsStripe row.interlace row.units (columns_of leaves row)

-- What is kept of a layout: each row is a stripe, begins behind those before it, and has a leaf at least.
pub record IsLayout (layout : Layout) : Type 0 where
  pub leaves : All IsLeaf layout.leaves.items
  pub rows : All (IsRow layout.leaves.items) layout.rows.items
  pub starts : (i : ℕ) (d : LaidRow) → i < length layout.rows.items → (slice_index_or layout.rows.items i d).start ≡ blocks_before (row_maps layout) i
  pub few : length layout.leaves.items ≤ 100
  pub fewer : length layout.rows.items ≤ length layout.leaves.items
  pub blocks : layout.blocks ≡ (layout_map layout).blocks
  pub short : layout.blocks ≤ length layout.leaves.items * 2 ^ 40

-- the block lies in this row, and each block of the row is one of the volume's
pub record IsRowAt (layout : Layout) (at : ℕ) (row : LaidRow) : Type 0 where
  pub is : IsRow layout.leaves.items row
  pub from : row.start ≤ at
  pub to : at < row.start + (laid_map layout.leaves.items row).blocks
  pub lies : (k : ℕ) → k < (laid_map layout.leaves.items row).blocks → LiesAs (layout_map layout) (row.start + k) (laid_map layout.leaves.items row) k
