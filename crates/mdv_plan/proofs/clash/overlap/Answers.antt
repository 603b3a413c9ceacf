use Rattle.std.proofs.Common.{sym, ◌∙◌}
use Rattle.mdv_plan.proofs.Neighbours.{apart}
use Rattle.mdv_plan.proofs.clash.overlap.Goals as goal

pub returns-then-not-same_drive : goal.returns-then-not-same_drive
returns-then-not-same_drive c = sym (apart c.args.geometry.now c.args.m c.args.n c.requires (sym c.same_drive.ensures ∙ c.if-not-same_drive.true))
