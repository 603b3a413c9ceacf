-- Leaves and layouts have fewer than 2^64 blocks, and each of these has one copy.
use Rattle.std.specs.Prelude.{◌+◌, ◌-◌, ◌<◌, ◌^◌, List, drop, length}
use Rattle.std.specs.List.{All, slice_index_or}
use Rattle.std.proofs.Common.{arith, sym, subst}
use Rattle.std.proofs.lemmas.List.{get_or-map, length-map}
use Rattle.std.proofs.lemmas.List.Elements.{All-drop, All-take}
use Rattle.mdv_dev.specs.OneCopy.{run_one}
use Rattle.mdv_layout_law.proofs.Chained.{chained_lie}
use Rattle.mdv_layout.specs.Below.{IsOneCopy, no_map}
use Rattle.mdv_layout.specs.Leaves.{IsLeaf, leaf_map}
use Rattle.mdv_layout.specs.Layouts.{IsLayout, IsRow, laid_map, layout_map, leaves_of, no_row, row_maps}
use Rattle.mdv_layout.specs.declared.layout.Layout.{Layout}
use Rattle.mdv_layout.specs.declared.leaf.Leaf.{Leaf}
use Rattle.mdv_layout.specs.declared.row.LaidRow.{LaidRow}
use Rattle.mdv_stripe.specs.OneCopy.{stripe_one}

pub leaf_bounded : (leaf : Leaf) → IsLeaf leaf → (leaf_map leaf).blocks < 2 ^ 64
leaf_bounded leaf is = omega arith

pub leaf_one : (leaf : Leaf) → IsLeaf leaf → IsOneCopy (leaf_map leaf)
leaf_one leaf is = run_one leaf.run.drive.0 leaf.run.first leaf.run.count

-- the leaves of a row are some of all
pub leaves_are : (leaves : List Leaf) (row : LaidRow) → All IsLeaf leaves → All IsLeaf (leaves_of leaves row)
leaves_are leaves row are = All-take IsLeaf (row.first + row.width - row.first) (drop row.first leaves) (All-drop IsLeaf row.first leaves are)

row_one : (leaves : List Leaf) (row : LaidRow) → All IsLeaf leaves → IsRow leaves row → IsOneCopy (laid_map leaves row)
row_one leaves row are is = stripe_one leaf_map IsLeaf leaf_one row.interlace row.units (leaves_of leaves row) (leaves_are leaves row are) is.stripe

pub layout_bounded : (layout : Layout) → IsLayout layout → (layout_map layout).blocks < 2 ^ 64
layout_bounded layout is =
    let few = is.few in
    let short = is.short in
    omega (arith, is.blocks)

pub layout_one : (layout : Layout) → IsLayout layout → IsOneCopy (layout_map layout)
layout_one layout is = chained_lie.one (row_maps layout) (λ i lt.
    let rows = layout.rows.items in
    let listed : i < length rows = omega (arith, length-map rows (laid_map layout.leaves.items)) in
    let here = get_or-map (laid_map layout.leaves.items) rows i no_row no_map listed in
    subst IsOneCopy (sym here) (row_one layout.leaves.items (slice_index_or rows i no_row) is.leaves (is.rows i no_row listed)))
