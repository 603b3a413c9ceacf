use Rattle.std.proofs.Common.{◌≡◌, length}
use Rattle.mdv_soft.proofs.Meeting.{do_meet}
use Rattle.mdv_soft.proofs.judge.lie_apart.Given as goal

abbrev pub invariant-loop-run : goal.invariant-loop-run
invariant-loop-run l = do_meet l.rest ≡ do_meet l.extents

abbrev pub decreases-loop-run : goal.decreases-loop-run
decreases-loop-run l = length l.rest
