use Rattle.std.proofs.Common.{◌≡◌, ◌-◌, ℕ, arith, sym, subst}
use Rattle.mdv_dev.specs.Below.{chain_map}
use Rattle.mdv_dev.specs.Pieces.{IsPiece}
use Rattle.mdv_dev.proofs.Chaining.{back_piece, join_piece}
use Rattle.mdv_dev.proofs.chain.ChainPlaced.piece.Goals as goal

pub returns-then-at-front : goal.returns-then-at-front
returns-then-at-front g c =
    let v = g.A.Placed.map c.args.self.now.front in
    let w = g.B.Placed.map c.args.self.now.back in
    let same : c.blocks-front.result ≡ v.blocks = c.blocks-front.ensures in
    back_piece v w c.args.at c.args.count c.piece.result (omega arith) (subst (λ (n : ℕ). IsPiece w (c.args.at - n) c.args.count c.piece.result) same c.piece.ensures)

pub returns : goal.returns
returns g c =
    let v = g.A.Placed.map c.args.self.now.front in
    let w = g.B.Placed.map c.args.self.now.back in
    let same : c.blocks-front.result ≡ v.blocks = c.blocks-front.ensures in
    let most = c.piece-piece.ensures.within in
    let one = subst (λ (n : ℕ). IsPiece v c.args.at (n - c.args.at) c.piece-piece.result) same c.piece-piece.ensures in
    let two = subst (λ (n : ℕ). IsPiece w 0 (c.args.count - (n - c.args.at)) c.piece-2.result) same c.piece-2.ensures in
    subst (λ p. IsPiece (chain_map v w) c.args.at c.args.count p) (sym c.joined.ensures)
    (join_piece v w c.args.at c.args.count c.piece-piece.result c.piece-2.result (omega arith) (omega arith) (omega arith) one two)
