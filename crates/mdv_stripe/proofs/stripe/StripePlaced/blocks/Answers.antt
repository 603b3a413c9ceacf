use Rattle.std.proofs.Common.{◌<◌, length, sym, arith}
use Rattle.mdv_stripe.specs.Stripes.{maps_of}
use Rattle.mdv_stripe.specs.OneCopy.{as_many}
use Rattle.mdv_stripe.proofs.Units.{wide_blocks}
use Rattle.mdv_stripe.proofs.stripe.StripePlaced.blocks.Goals as goal

pub overflow_mul-result-2 : goal.overflow_mul-result-2
overflow_mul-result-2 g c =
    let stripe = c.args.self.now in
    let same = as_many g.D.Placed.map stripe.components.now in
    let not = c.if-width-eq1.false in
    let some = c.requires.1.width.some in
    let wide : 1 < length stripe.components.now = omega arith in
    let bounded = c.requires.1.bounded in
    omega (arith, wide_blocks stripe.interlace (maps_of g.D.Placed.map stripe.components.now) (length stripe.components.now) stripe.units same wide c.requires.1.dealt)

pub returns : goal.returns
returns g c =
    let stripe = c.args.self.now in
    let same = as_many g.D.Placed.map stripe.components.now in
    let not = c.if-width-eq1.false in
    let some = c.requires.1.width.some in
    let wide : 1 < length stripe.components.now = omega arith in
    sym (wide_blocks stripe.interlace (maps_of g.D.Placed.map stripe.components.now) (length stripe.components.now) stripe.units same wide c.requires.1.dealt)
