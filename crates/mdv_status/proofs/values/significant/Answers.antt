use Rattle.std.proofs.Common.{◌∙◌}
use Rattle.mdv_status.proofs.Blocks.{without_last, all_kept}
use Rattle.mdv_status.proofs.values.significant.Goals as goal

pub loop-bytes-preserved : goal.loop-bytes-preserved
loop-bytes-preserved c = without_last c.loop-bytes.bytes.now c.in-len1-up.len_at_least c.if-last-ne0.false ∙ c.loop-bytes.invariant

pub returns-then-last-ne0 : goal.returns-then-last-ne0
returns-then-last-ne0 c = all_kept c.loop-bytes.bytes.now c.in-len1-up.len_at_least c.if-last-ne0.true ∙ c.loop-bytes.invariant
