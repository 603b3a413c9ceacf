use Rattle.std.proofs.Common.{ℕ, ◌*◌, ◌<◌, ◌^◌, ◌∙◌, ap, length, SomeIff, subst, sym, arith}
use Rattle.mdv_stripe.specs.Stripes.{maps_of}
use Rattle.mdv_stripe.specs.OneCopy.{as_many}
use Rattle.mdv_stripe.proofs.Units.{wide_blocks}
use Rattle.mdv_stripe.proofs.stripe.Stripe.counted.Goals as goal

pub returns : goal.returns
returns g c =
    let stripe = c.args.self.now in
    let same = as_many g.D.Placed.map stripe.components.now in
    let not = c.if-width-eq1.false in
    let some = c.requires.width.some in
    let wide : 1 < length stripe.components.now = omega arith in
    let all = wide_blocks stripe.interlace (maps_of g.D.Placed.map stripe.components.now) (length stripe.components.now) stripe.units same wide c.requires.dealt in
    let dealt = c.in_ok-checked_mul.ensures.1 in
    subst (λ (n : ℕ). SomeIff c.checked_mul-2.result (n < 2 ^ 64) n) (sym (all ∙ ap (λ (n : ℕ). length stripe.components.now * n) (sym dealt))) c.checked_mul-2.ensures
