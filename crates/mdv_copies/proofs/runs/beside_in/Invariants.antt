use Rattle.std.proofs.Common.{◌≡◌, ◌+◌, ℕ, length}
use Rattle.mdv_copies.specs.Copies.{lies_in}
use Rattle.mdv_copies.proofs.runs.beside_in.Given as goal

abbrev pub invariant-loop-rest : goal.invariant-loop-rest
invariant-loop-rest l = (k : ℕ) → lies_in l.rows l.on (l.block + k) ≡ lies_in l.rest l.on (l.left + k)

abbrev pub decreases-loop-rest : goal.decreases-loop-rest
decreases-loop-rest l = length l.rest
