-- Pieces of a row are pieces of the volume, but for their length.
use Rattle.std.proofs.Common.{◌≡◌, ℕ, ◌+◌, ◌-◌, ◌≤◌, List, ◌∙◌, ap, subst, arith}
use Rattle.std.specs.Prelude.{All}
use Rattle.std.proofs.lemmas.List.Elements.{All-same}
use Rattle.mdv_dev.specs.Together.{lies_where}
use Rattle.mdv_layout.specs.Below.{IsPiece, IsStripe, LieTogether, LiesAs, Piece, maps_of, striped}
use Rattle.mdv_layout.specs.Leaves.{IsLeaf, leaf_map}
use Rattle.mdv_layout.specs.Layouts.{IsLayout, IsRowAt, columns_of, laid_map, layout_map, leaves_of}
use Rattle.mdv_layout.specs.OneCopy.{leaves_are}
use Rattle.mdv_layout.specs.declared.layout.Layout.{Layout}
use Rattle.mdv_layout.specs.declared.leaf.Leaf.{Leaf}
use Rattle.mdv_layout.specs.declared.row.LaidRow.{LaidRow}

pub row_together : (layout : Layout) (at count most : ℕ) (row : LaidRow) (piece : Piece) → IsRowAt layout at row → most ≤ count
    → at - row.start + most ≤ (laid_map layout.leaves.items row).blocks → IsPiece (laid_map layout.leaves.items row) (at - row.start) most piece → LieTogether (layout_map layout) at count piece
row_together layout at count most row piece here few inside is =
    let within = is.within in
    let begun = here.from in
    let v = layout_map layout in
    let w = laid_map layout.leaves.items row in
    record {
      some = is.some;
      within = omega arith;
      lies = λ k lt.
          let block : row.start + (at - row.start + k) ≡ at + k = omega arith in
          let lies = subst (λ (b : ℕ). LiesAs v b w (at - row.start + k)) block (here.lies (at - row.start + k) (omega arith)) in
          lies_where v w (at + k) (at - row.start + k) piece.drive.0 (piece.block + k) lies (is.lies k lt);
      fits = is.fits;
    }

-- the stripe of a row over its leaves
pub stripe_lies : (leaves : List Leaf) (row : LaidRow) (components : List Leaf) (interlace : ℕ) → components ≡ leaves_of leaves row → interlace ≡ row.interlace → striped interlace (maps_of leaf_map components) ≡ laid_map leaves row
stripe_lies leaves row components interlace same deep = ap (λ (ls : List Leaf). striped interlace (maps_of leaf_map ls)) same ∙ ap (λ (n : ℕ). striped n (columns_of leaves row)) deep

pub stripe_well : (layout : Layout) (at : ℕ) (row : LaidRow) (components : List Leaf) (interlace units : ℕ) → IsLayout layout → IsRowAt layout at row
    → components ≡ leaves_of layout.leaves.items row → interlace ≡ row.interlace → units ≡ row.units → All IsLeaf components × IsStripe interlace units (maps_of leaf_map components)
stripe_well layout at row components interlace units well here same deep many = (
  All-same IsLeaf components (leaves_of layout.leaves.items row) same (leaves_are layout.leaves.items row well.leaves),
  rw (same, deep, many) here.is.stripe,
)
