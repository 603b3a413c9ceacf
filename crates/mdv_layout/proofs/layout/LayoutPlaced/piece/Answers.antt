use Rattle.std.proofs.Common.{◌+◌, ◌&&◌, ◌==◌, sym, ◌∙◌, arith}
use Rattle.mdv_dev.proofs.Together.{ends_here, join_pieces, whole_piece}
use Rattle.mdv_layout.specs.Layouts.{layout_map}
use Rattle.mdv_layout.specs.OneCopy.{layout_bounded}
use Rattle.mdv_layout.proofs.layout.LayoutPlaced.piece.Goals as goal

pub returns-then-not-is_behind : goal.returns-then-not-is_behind
returns-then-not-is_behind c =
    let p = c.loop-piece.piece in
    let q = c.row_piece-next.result in
    ends_here (layout_map c.args.self.now) c.args.at c.args.count p q c.loop-piece.invariant c.row_piece-next.ensures
    (sym {b = q.drive.0 == p.drive.0 && q.block == p.block + p.count} c.is_behind.ensures ∙ c.if-not-is_behind.true)

pub loop-piece-preserved : goal.loop-piece-preserved
loop-piece-preserved c =
    let p = c.loop-piece.piece in
    let q = c.row_piece-next.result in
    join_pieces (layout_map c.args.self.now) c.args.at c.args.count p q c.loop-piece.invariant c.row_piece-next.ensures
    (sym {b = q.drive.0 == p.drive.0 && q.block == p.block + p.count} c.is_behind.ensures ∙ c.if-not-is_behind.false)

pub returns : goal.returns
returns c = whole_piece (layout_map c.args.self.now) c.args.at c.args.count c.loop-piece.piece c.loop-piece.invariant (omega (arith, c.loop-piece-test.false))

pub overflow_add-at : goal.overflow_add-at
overflow_add-at c =
    let all = layout_bounded c.args.self.now c.requires.well in
    omega (arith, c.requires.within, c.loop-piece-test.true)
