use Rattle.std.proofs.Common.{[], sym, subst}
use Rattle.mdv_keys.specs.Marks.{AreMarks, pool_key}
use Rattle.mdv_keys.proofs.Marking.{marks_none}
use Rattle.mdv_keys.proofs.marks.pools_marked.Goals as goal

pub loop-pool-init : goal.loop-pool-init
loop-pool-init c = subst (λ m. AreMarks pool_key 1000 m []) (sym c.in_ok-marks.ensures) (marks_none pool_key 1000)
