use Rattle.std.proofs.Common.{◌<◌, ℕ}
use Rattle.mdv_config.proofs.Marks.{IsClash}
use Rattle.mdv_config.proofs.uses.Uses.overlap.Given as goal

abbrev pub invariant-loop-slice : goal.invariant-loop-slice
invariant-loop-slice l = (n : ℕ) → n < l.slice → IsClash l.geometry.slices l.self l.name l.at n → ⊥
