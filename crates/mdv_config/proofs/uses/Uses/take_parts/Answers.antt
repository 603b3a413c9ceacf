use Rattle.mdv_config.specs.Lists.{part_slices}
use Rattle.mdv_config.proofs.Taking.{never_taken, taken_all, taken_more, taken_none}
use Rattle.mdv_config.proofs.uses.Uses.take_parts.Goals as goal

pub loop-component-init : goal.loop-component-init
loop-component-init c uses is = taken_none c.args.geometry.now.slices uses c.args.self.now is

pub returns-then-not-free : goal.returns-then-not-free
returns-then-not-free c uses is =
    let was = c.loop-component.invariant uses is in
    never_taken part_slices c.args.components.now c.loop-component.component-index _ c.loop-component-test.true c.args.geometry.now.slices uses c.loop-component.self c.take_base-free.new.self was c.take_base-free.result c.if-not-free.true c.take_base-free.ensures

pub loop-component-preserved : goal.loop-component-preserved
loop-component-preserved c uses is =
    let was = c.loop-component.invariant uses is in
    taken_more part_slices c.args.components.now c.loop-component.component-index _ c.loop-component-test.true c.args.geometry.now.slices uses c.loop-component.self c.take_base-free.new.self was c.take_base-free.result c.if-not-free.false c.take_base-free.ensures

pub returns : goal.returns
returns c uses is = taken_all part_slices c.args.components.now c.loop-component.component-index c.args.geometry.now.slices uses c.loop-component.self c.loop-component-test.false (c.loop-component.invariant uses is)
