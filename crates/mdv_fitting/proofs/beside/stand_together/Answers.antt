use Rattle.std.proofs.Common.{sym, ◌∙◌}
use Rattle.mdv_fitting.proofs.Together.{stands_front, step_firsts, step_told}
use Rattle.mdv_fitting.proofs.beside.stand_together.Goals as goal

pub returns-then-not-branch : goal.returns-then-not-branch
returns-then-not-branch c =
    let told = step_told c.args.geometry.now c.loop-one.firsts c.args.uses.now c.loop-one.one-index _ c.in_ok-comes_beside.field-0 c.loop-one-test.true c.requires.sound c.requires.named c.requires.parts c.loop-one.invariant.firsts c.loop-one.invariant.stands c.in_ok-comes_beside.ensures.fits in
    (λ never. cc (never), λ all. sym c.if-not-branch.true ∙ told.1 (stands_front c.args.geometry.now c.args.uses.now _ all))

pub loop-one-preserved : goal.loop-one-preserved
loop-one-preserved c =
    let told = step_told c.args.geometry.now c.loop-one.firsts c.args.uses.now c.loop-one.one-index _ c.in_ok-comes_beside.field-0 c.loop-one-test.true c.requires.sound c.requires.named c.requires.parts c.loop-one.invariant.firsts c.loop-one.invariant.stands c.in_ok-comes_beside.ensures.fits in
    record { firsts = step_firsts c.loop-one.firsts c.comes_beside.new.firsts c.args.uses.now c.loop-one.one-index _ c.loop-one-test.true c.loop-one.invariant.firsts (c.in_ok-comes_beside.ensures.first c.if-not-branch.false); stands = told.0 c.if-not-branch.false }
