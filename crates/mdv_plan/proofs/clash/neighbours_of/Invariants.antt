use Rattle.std.proofs.Common.{◌≡◌, ◌<◌, ℕ, false, length, get_or}
use Rattle.mdv_plan.specs.Slices.{beside, overlap}
use Rattle.mdv_plan.proofs.clash.neighbours_of.Given as goal

abbrev pub invariant-loop-number : goal.invariant-loop-number
invariant-loop-number l = (length l.marks ≡ 8) × ((i : ℕ) → i < l.number → get_or l.marks i false ≡ overlap l.geometry (beside l.slice i) l.slice)
