use Rattle.std.proofs.Common.{sym, ◌∙◌}
use Rattle.mdv_tab.proofs.LineEnds.{cut_step}
use Rattle.mdv_tab.proofs.lines.cut_line.Goals as goal

pub loop-rest-preserved : goal.loop-rest-preserved
loop-rest-preserved c = cut_step _ _ c.loop-rest.invariant c.in-len1-up.len_at_least (sym c.stops.ensures ∙ c.if-stops.false)
