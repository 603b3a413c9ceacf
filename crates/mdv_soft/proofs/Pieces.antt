-- Pieces of a soft partition.
use Rattle.std.proofs.Common.{ℕ, ◌+◌, ◌<◌, ◌≤◌, List, subst, arith}
use Rattle.mdv_dev.specs.Together.{lies_where}
use Rattle.mdv_soft.specs.Below.{IsPiece, LieApart, LieTogether, LiesAs, Map, Piece, Run}
use Rattle.mdv_soft.specs.Softs.{left_in, picked, soft_on, total}
use Rattle.mdv_soft.specs.OneCopy.{lies_as}
use Rattle.mdv_soft.proofs.Spots.{picked_along}

lies_along : (v : Map) (extents : List Run) (b k : ℕ) → LieApart v.blocks extents → k < left_in extents b → b + k < total extents → LiesAs (soft_on v extents) (b + k) v (picked extents b + k)
lies_along v extents b k apart left lt = subst (λ (n : ℕ). LiesAs (soft_on v extents) (b + k) v n) (picked_along extents b k left) (lies_as v extents (b + k) apart lt)

-- the first blocks of an extent, where the base says that they lie together
pub extent_together : (v : Map) (extents : List Run) (at count most : ℕ) (piece : Piece) → LieApart v.blocks extents → at + count ≤ total extents → most ≤ count → most ≤ left_in extents at
    → IsPiece v (picked extents at) most piece → LieTogether (soft_on v extents) at count piece
extent_together v extents at count most piece apart inside few left is =
    let within = is.within in
    record {
      some = is.some;
      within = omega arith;
      lies = λ k lt. lies_where (soft_on v extents) v (at + k) (picked extents at + k) piece.drive.0 (piece.block + k) (lies_along v extents at k apart (omega arith) (omega arith)) (is.lies k lt);
      fits = is.fits;
    }
