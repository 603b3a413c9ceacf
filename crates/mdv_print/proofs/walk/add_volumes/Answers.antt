use Rattle.std.proofs.Common.{◌≡◌, ◌∙◌, ◌++◌, ◌-◌, ◌+◌, suc, List, length, reverse, ap, arith, subst}
use Rattle.mdv_print.specs.Below.{VolId}
use Rattle.mdv_print.specs.Text.{volumes_text}
use Rattle.mdv_print.proofs.Walking.{WalkSoFar, walk_begins, walk_ends, walk_full, walk_goes_on}
use Rattle.mdv_print.proofs.walk.add_volumes.Goals as goal

pub loop-init : goal.loop-init
loop-init c =
    let set = c.args.set.now in
    let p = c.args.plan.now in
    let vs = c.args.volumes.now in
    let text = c.args.text.now.items in
    let left = c.add_reversed.new.list.items in
    let marks = c.in_ok-told.told in
    let count : length p.volumes ≡ length c.as_slice-count.result.now - 0 = omega (arith, ap length c.as_slice-count.ensures.value) in
    let is : left ≡ reverse vs = c.in_ok-add_reversed.ensures ∙ ap (λ (l : List VolId). l ++ reverse c.in_ok-from_slice.field-0.items) c.new-left.ensures.items ∙ ap reverse c.in_ok-from_slice.ensures.items in
    subst (WalkSoFar set p (text ++ volumes_text set p vs) text marks left) count (walk_begins set p text vs left marks is c.in_ok-told.ensures)

pub returns-in_default : goal.returns-in_default
returns-in_default c =
    let set = c.args.set.now in
    let p = c.args.plan.now in
    let all = c.args.text.now.items ++ volumes_text set p c.args.volumes.now in
    walk_ends set p all c.loop.text.items c.loop.told c.loop.left.items (length c.as_slice-count.result.now - c.loop.counter) c.in_default.ensures c.loop.invariant

pub loop-preserved : goal.loop-preserved
loop-preserved c =
    let set = c.args.set.now in
    let p = c.args.plan.now in
    let all = c.args.text.now.items ++ volumes_text set p c.args.volumes.now in
    let count = length c.as_slice-count.result.now in
    let n = count - (c.loop.counter + 1) in
    let left : count - c.loop.counter ≡ suc n = omega (arith, c.loop-test.true) in
    let far = subst (WalkSoFar set p all c.loop.text.items c.loop.told c.loop.left.items) left c.loop.invariant in
    let below = c.in_ok-add_reversed-2.ensures ∙ ap (λ (l : List VolId). c.take_next.new.left.items ++ reverse l) c.in_ok-below.ensures in
    walk_goes_on set p all c.loop.text.items c.add_volume.new.text.items c.loop.told c.add.new.self c.loop.left.items c.take_next.new.left.items c.add_reversed-in-loop.new.list.items n c.in-Some.volume.now c.in-Some.ensures c.in_ok-add_volume.ensures c.add.ensures below far

pub returns : goal.returns
returns c =
    let set = c.args.set.now in
    let p = c.args.plan.now in
    let all = c.args.text.now.items ++ volumes_text set p c.args.volumes.now in
    let count = length c.as_slice-count.result.now in
    let none : count - c.loop.counter ≡ 0 = omega (arith, c.loop-test.false) in
    walk_full set p all c.loop.text.items c.loop.told c.loop.left.items (count - c.loop.counter) none c.loop.invariant
