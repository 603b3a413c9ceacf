use Rattle.std.proofs.Common.{◌≡◌, length}
use Rattle.mdv_engine_law.specs.Refusals.{is_doubled}
use Rattle.mdv_engine.proofs.create.is_doubled.Given as goal

abbrev pub invariant-loop-rest : goal.invariant-loop-rest
invariant-loop-rest l = is_doubled l.slices ≡ is_doubled l.rest

abbrev pub decreases-loop-rest : goal.decreases-loop-rest
decreases-loop-rest l = length l.rest
