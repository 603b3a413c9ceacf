use Rattle.std.proofs.Common.{ℕ, subst, arith}
use Rattle.mdv_soft.specs.Below.{IsPiece}
use Rattle.mdv_soft.proofs.Pieces.{extent_together}
use Rattle.mdv_soft.proofs.Spots.{left_within, picked_end}
use Rattle.mdv_soft.proofs.soft.Soft.extent_piece.Goals as goal

pub piece-requires-clause-some : goal.piece-requires-clause-some
piece-requires-clause-some g c =
    let extents = c.args.self.now.extents.now in
    let some = c.requires.some in
    let within = c.requires.within in
    let left = left_within extents c.args.at (omega arith) in
    omega (arith, left.0, c.spot_in-spot.ensures.left, c.min.ensures)

pub piece-requires-clause-within : goal.piece-requires-clause-within
piece-requires-clause-within g c =
    let v = g.D.Placed.map c.args.self.now.base.now in
    let extents = c.args.self.now.extents.now in
    let some = c.requires.some in
    let within = c.requires.within in
    let end = picked_end v.blocks extents c.args.at c.requires.well.1.are.on_base.lie (omega arith) in
    omega (arith, c.spot_in-spot.ensures.block, c.spot_in-spot.ensures.left, c.min.ensures)

pub returns : goal.returns
returns g c =
    let v = g.D.Placed.map c.args.self.now.base.now in
    let extents = c.args.self.now.extents.now in
    let piece = subst (λ (n : ℕ). IsPiece v n c.min.result c.piece.result) c.spot_in-spot.ensures.block c.piece.ensures in
    extent_together v extents c.args.at c.args.count c.min.result c.piece.result c.requires.well.1.are.on_base c.requires.within (omega (arith, c.min.ensures)) (omega (arith, c.spot_in-spot.ensures.left, c.min.ensures)) piece
