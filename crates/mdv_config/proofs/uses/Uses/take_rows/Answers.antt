use Rattle.std.proofs.Common.{subst}
use Rattle.mdv_config.specs.Below.{Row}
use Rattle.mdv_config.specs.Lists.{row_slices}
use Rattle.mdv_config.specs.Marks.{Takes}
use Rattle.mdv_config.proofs.Taking.{never_taken, taken_all, taken_more, taken_none}
use Rattle.mdv_config.proofs.uses.Uses.take_rows.Goals as goal

pub loop-row-init : goal.loop-row-init
loop-row-init c uses is = taken_none c.args.geometry.now.slices uses c.args.self.now is

pub returns-then-not-free : goal.returns-then-not-free
returns-then-not-free c uses is =
    let lines = c.args.geometry.now.slices in
    let told = c.take_parts-free.result in
    let new = c.take_parts-free.new.self in
    let takes = subst (λ (r : Row). Takes lines (row_slices r) c.loop-row.self told new) c.row-item.is (rw c.as_slice.ensures.value at c.take_parts-free.ensures) in
    never_taken row_slices c.args.rows.now c.loop-row.row-index c.row-item.result c.loop-row-test.true lines uses c.loop-row.self new (c.loop-row.invariant uses is) told c.if-not-free.true takes

pub loop-row-preserved : goal.loop-row-preserved
loop-row-preserved c uses is =
    let lines = c.args.geometry.now.slices in
    let told = c.take_parts-free.result in
    let new = c.take_parts-free.new.self in
    let takes = subst (λ (r : Row). Takes lines (row_slices r) c.loop-row.self told new) c.row-item.is (rw c.as_slice.ensures.value at c.take_parts-free.ensures) in
    taken_more row_slices c.args.rows.now c.loop-row.row-index c.row-item.result c.loop-row-test.true lines uses c.loop-row.self new (c.loop-row.invariant uses is) told c.if-not-free.false takes

pub returns : goal.returns
returns c uses is = taken_all row_slices c.args.rows.now c.loop-row.row-index c.args.geometry.now.slices uses c.loop-row.self c.loop-row-test.false (c.loop-row.invariant uses is)
