use Rattle.std.proofs.Common.{sym, ◌∙◌}
use Rattle.mdv_stripe.specs.Stripes.{maps_of, striped}
use Rattle.mdv_dev.proofs.Together.{ends_here, join_pieces}
use Rattle.mdv_stripe.proofs.stripe.Stripe.joined_units.Goals as goal

pub returns-then-not-is_behind : goal.returns-then-not-is_behind
returns-then-not-is_behind g c =
    let v = striped c.args.self.now.interlace (maps_of g.D.Placed.map c.args.self.now.components.now) in
    ends_here v c.args.at c.args.count c.loop-piece.piece c.unit_piece-next.result c.loop-piece.invariant c.unit_piece-next.ensures (sym c.is_behind.ensures ∙ c.if-not-is_behind.true)

pub loop-piece-preserved : goal.loop-piece-preserved
loop-piece-preserved g c =
    let v = striped c.args.self.now.interlace (maps_of g.D.Placed.map c.args.self.now.components.now) in
    join_pieces v c.args.at c.args.count c.loop-piece.piece c.unit_piece-next.result c.loop-piece.invariant c.unit_piece-next.ensures (sym c.is_behind.ensures ∙ c.if-not-is_behind.false)
