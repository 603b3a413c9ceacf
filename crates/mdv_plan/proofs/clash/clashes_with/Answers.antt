use Rattle.std.proofs.Common.{sym, ◌∙◌}
use Rattle.mdv_plan.proofs.Neighbours.{clash_apart, clash_there}
use Rattle.mdv_plan.proofs.clash.clashes_with.Goals as goal

pub returns-then-not-same_drive : goal.returns-then-not-same_drive
returns-then-not-same_drive c = clash_apart c.args.geometry.now c.args.asked c.args.slice c.args.one.now c.requires.sound (sym c.same_drive.ensures ∙ c.if-not-same_drive.true)

pub returns : goal.returns
returns c = c.is_neighbour.ensures ∙ clash_there c.args.geometry.now c.args.asked c.args.slice c.args.one.now (sym c.same_drive.ensures ∙ c.if-not-same_drive.false) c.if-one-slice.false
