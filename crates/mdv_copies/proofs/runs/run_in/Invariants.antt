use Rattle.std.proofs.Common.{◌≡◌, ◌+◌, ℕ, length}
use Rattle.mdv_copies.specs.Copies.{is_usable_in}
use Rattle.mdv_copies.proofs.runs.run_in.Given as goal

abbrev pub invariant-loop-rest : goal.invariant-loop-rest
invariant-loop-rest l = (k : ℕ) → is_usable_in l.rows l.parts (l.block + k) ≡ is_usable_in l.rest l.states (l.left + k)

abbrev pub decreases-loop-rest : goal.decreases-loop-rest
decreases-loop-rest l = length l.rest
