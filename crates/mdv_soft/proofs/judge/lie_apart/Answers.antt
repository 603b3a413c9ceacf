use Rattle.std.proofs.Common.{sym, ◌∙◌, ap}
use Rattle.mdv_soft.proofs.Meeting.{do_meet, first_meets, none_left, tells_apart, tells_shared}
use Rattle.mdv_soft.proofs.judge.lie_apart.Goals as goal

pub returns-then-meets_one : goal.returns-then-meets_one
returns-then-meets_one c =
    let left = sym (ap do_meet c.in-Some.ensures.cases.0) ∙ c.loop-run.invariant in
    tells_shared c.args.extents.now c.requires (first_meets c.in-Some.run'.now c.in-Some.behind.now c.args.extents.now left (sym c.meets_one.ensures ∙ c.if-meets_one.true))

pub returns : goal.returns
returns c = tells_apart c.args.extents.now c.requires (none_left c.loop-run.rest.now c.args.extents.now c.loop-run.invariant c.in_default.ensures.cases)
