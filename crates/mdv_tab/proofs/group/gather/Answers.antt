use Rattle.std.proofs.Common.{◌≡◌, length, sym, ◌∙◌, arith}
use Rattle.std.proofs.lemmas.Bool.Decides.{nat_tests}
use Rattle.mdv_tab.proofs.Gathering.{gathered_more, gathered_closed, gathered_open}
use Rattle.mdv_tab.proofs.group.gather.Goals as goal

pub returns-then-not-branch : goal.returns-then-not-branch
returns-then-not-branch c =
    gathered_closed _ c.loop-rest.rest.now c.loop-rest.group.text.items c.split_line.result.0.now c.split_line.result.1.now _ c.loop-rest.group.ascii _ c.loop-rest.group.lines _ c.loop-rest.invariant c.split_line.ensures.lines c.split_line.ensures.whole
    c.split_line.ensures.some c.in_ok-add.ensures.text c.in_ok-add.ensures.ascii c.in_ok-add.ensures.lines (sym c.in_ok-add.ensures.joined ∙ c.if-not-branch.true)

pub loop-rest-preserved : goal.loop-rest-preserved
loop-rest-preserved c =
    gathered_more _ c.loop-rest.rest.now c.loop-rest.group.text.items c.split_line.result.0.now c.split_line.result.1.now _ c.loop-rest.group.ascii _ c.loop-rest.group.lines _ c.loop-rest.invariant c.split_line.ensures.lines c.split_line.ensures.whole
    c.split_line.ensures.some c.in_ok-add.ensures.text c.in_ok-add.ensures.ascii c.in_ok-add.ensures.lines (sym c.in_ok-add.ensures.joined ∙ c.if-not-branch.false)

pub returns : goal.returns
returns c = let none : length c.loop-rest.rest.now ≡ 0 = grind (arith, nat_tests) in gathered_open _ _ _ _ _ c.loop-rest.invariant c.requires.some none
