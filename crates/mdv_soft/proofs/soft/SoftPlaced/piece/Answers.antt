use Rattle.std.proofs.Common.{◌+◌, ◌&&◌, ◌==◌, sym, ◌∙◌, arith}
use Rattle.mdv_dev.proofs.Together.{ends_here, join_pieces, whole_piece}
use Rattle.mdv_soft.specs.Softs.{soft_on}
use Rattle.mdv_soft.specs.OneCopy.{soft_bounded}
use Rattle.mdv_soft.proofs.soft.SoftPlaced.piece.Goals as goal

pub returns-then-not-is_behind : goal.returns-then-not-is_behind
returns-then-not-is_behind g c =
    let v = soft_on (g.D.Placed.map c.args.self.now.base.now) c.args.self.now.extents.now in
    let p = c.loop-piece.piece in
    let q = c.extent_piece-next.result in
    ends_here v c.args.at c.args.count p q c.loop-piece.invariant c.extent_piece-next.ensures
    (sym {b = q.drive.0 == p.drive.0 && q.block == p.block + p.count} c.is_behind.ensures ∙ c.if-not-is_behind.true)

pub loop-piece-preserved : goal.loop-piece-preserved
loop-piece-preserved g c =
    let v = soft_on (g.D.Placed.map c.args.self.now.base.now) c.args.self.now.extents.now in
    let p = c.loop-piece.piece in
    let q = c.extent_piece-next.result in
    join_pieces v c.args.at c.args.count p q c.loop-piece.invariant c.extent_piece-next.ensures
    (sym {b = q.drive.0 == p.drive.0 && q.block == p.block + p.count} c.is_behind.ensures ∙ c.if-not-is_behind.false)

pub returns : goal.returns
returns g c =
    let v = soft_on (g.D.Placed.map c.args.self.now.base.now) c.args.self.now.extents.now in
    whole_piece v c.args.at c.args.count c.loop-piece.piece c.loop-piece.invariant (omega (arith, c.loop-piece-test.false))

pub overflow_add-at : goal.overflow_add-at
overflow_add-at g c =
    let v = g.D.Placed.map c.args.self.now.base.now in
    let all = soft_bounded v c.args.self.now.extents.now (g.met.D.Placed.bounded c.args.self.now.base.now c.requires.well.0) c.requires.well.1 in
    omega (arith, c.requires.within, c.loop-piece-test.true)
