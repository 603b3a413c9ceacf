use Rattle.std.proofs.Common.{◌≡◌, ℕ, ◌+◌, length, ◌∙◌, ap, sym, subst, arith}
use Rattle.mdv_stripe.specs.Below.{Map}
use Rattle.mdv_stripe.specs.Stripes.{maps_of}
use Rattle.mdv_stripe.specs.OneCopy.{as_many, column_is}
use Rattle.mdv_stripe.proofs.Leasts.{IsLeastYet, least_first, least_found, least_more}
use Rattle.mdv_stripe.proofs.least.least_blocks.Goals as goal

pub loop-component-init : goal.loop-component-init
loop-component-init g c =
    let devices = c.args.components.now in
    let column = column_is g.D.Placed.map devices 0 c.index-components-0.result c.requires.some c.index-components-0.is in
    least_first (maps_of g.D.Placed.map devices) c.blocks-least.result (omega (arith, as_many g.D.Placed.map devices)) (c.blocks-least.ensures ∙ ap (λ (v : Map). v.blocks) (sym column))

pub loop-component-preserved : goal.loop-component-preserved
loop-component-preserved g c =
    let devices = c.args.components.now in
    let at = c.loop-component.component-index in
    let listed = c.loop-component-test.true in
    let column = column_is g.D.Placed.map devices at c.component-item.result listed c.component-item.is in
    let more = least_more (maps_of g.D.Placed.map devices) at c.loop-component.least c.blocks-in-loop-component.result c.loop-component.invariant (omega (arith, as_many g.D.Placed.map devices))
    (c.blocks-in-loop-component.ensures ∙ ap (λ (v : Map). v.blocks) (sym column)) in
    subst (IsLeastYet (maps_of g.D.Placed.map devices) (at + 1)) (sym c.min-least.ensures) more

pub returns : goal.returns
returns g c =
    let devices = c.args.components.now in
    let most = c.loop-component.auto.component-index-end in
    let end = c.loop-component-test.false in
    let all : c.loop-component.component-index ≡ length (maps_of g.D.Placed.map devices) = omega (arith, as_many g.D.Placed.map devices) in
    least_found (maps_of g.D.Placed.map devices) c.loop-component.least (subst (λ (n : ℕ). IsLeastYet (maps_of g.D.Placed.map devices) n c.loop-component.least) all c.loop-component.invariant)
