use Rattle.std.proofs.Common.{◌<◌, ℕ}
use Rattle.mdv_plan.proofs.Neighbours.{IsDbBeside}
use Rattle.mdv_plan.proofs.clash.meets_db_beside.Given as goal

abbrev pub invariant-loop-number : goal.invariant-loop-number
invariant-loop-number l = (n : ℕ) → n < l.number → IsDbBeside l.geometry l.marks l.slice n → ⊥
