use Rattle.std.proofs.Common.{ℕ, ◌<◌, subst, arith}
use Rattle.mdv_stripe.specs.Below.{column_at, column_of, offset_of}
use Rattle.mdv_dev.specs.Together.{LiesAs}
use Rattle.mdv_stripe.specs.Stripes.{maps_of, striped}
use Rattle.mdv_stripe.specs.OneCopy.{as_many, lies_as}
use Rattle.mdv_stripe.proofs.stripe.Stripe.leg_of.Goals as goal

pub returns-clause-lies : goal.returns-clause-lies
returns-clause-lies g c =
    let columns = maps_of g.D.Placed.map c.args.self.now.components.now in
    let interlace = c.args.self.now.interlace in
    let long = c.requires.well.1.unit.least in
    let some : 0 < interlace = omega arith in
    let same = as_many g.D.Placed.map c.args.self.now.components.now in
    subst (λ (w : ℕ). LiesAs (striped interlace columns) c.args.at (column_at columns (column_of interlace w c.args.at)) (offset_of interlace w c.args.at)) same (lies_as interlace columns c.args.at some c.requires.within)
