use Rattle.std.proofs.Common.{◌+◌, ◌%◌, ◌<◌, ◌≤◌, sym, subst, arith}
use Rattle.mdv_stripe.specs.Below.{IsPiece}
use Rattle.mdv_stripe.specs.Stripes.{maps_of, striped}
use Rattle.mdv_stripe.proofs.Units.{leg_lies, unit_end, unit_together}
use Rattle.mdv_stripe.proofs.stripe.Stripe.unit_piece.Goals as goal

pub piece-requires-clause-within : goal.piece-requires-clause-within
piece-requires-clause-within g c =
    let devices = c.args.self.now.components.now in
    let interlace = c.args.self.now.interlace in
    let long = c.requires.well.1.unit.least in
    let some : 0 < interlace = omega arith in
    let wanted = c.requires.some in
    let within = c.requires.within in
    let leg = c.leg_of-leg.result in
    let d = c.index-self-leg.result in
    let most : c.min.result ≤ c.args.count = omega (arith, c.min.ensures) in
    let inside : c.args.at % interlace + c.min.result ≤ interlace = omega (arith, c.min.ensures) in
    let lies = leg_lies g.D.Placed.map devices interlace c.args.at some leg c.leg_of-leg.ensures.rule c.leg_of-leg.ensures.listed d c.index-self-leg.is in
    let there = unit_end (striped interlace (maps_of g.D.Placed.map devices)) (g.D.Placed.map d) c.args.at leg.block c.min.result interlace (omega (arith, c.min.ensures)) inside
    (λ k inside lt. lies k inside (omega arith)) in
    subst (λ e. leg.block + c.min.result ≤ (g.D.Placed.map e).blocks) c.index-self-leg.is there

pub returns : goal.returns
returns g c =
    let devices = c.args.self.now.components.now in
    let interlace = c.args.self.now.interlace in
    let long = c.requires.well.1.unit.least in
    let some : 0 < interlace = omega arith in
    let within = c.requires.within in
    let leg = c.leg_of-leg.result in
    let d = c.index-self-leg.result in
    let most : c.min.result ≤ c.args.count = omega (arith, c.min.ensures) in
    let inside : c.args.at % interlace + c.min.result ≤ interlace = omega (arith, c.min.ensures) in
    let lies = leg_lies g.D.Placed.map devices interlace c.args.at some leg c.leg_of-leg.ensures.rule c.leg_of-leg.ensures.listed d c.index-self-leg.is in
    let piece = subst (λ e. IsPiece (g.D.Placed.map e) leg.block c.min.result c.piece.result) (sym c.index-self-leg.is) c.piece.ensures in
    unit_together (striped interlace (maps_of g.D.Placed.map devices)) (g.D.Placed.map d) c.args.at leg.block c.args.count c.min.result interlace c.piece.result most inside
    (λ k inside lt. lies k inside (omega arith)) piece
