use Rattle.std.proofs.Common.{ℕ, ◌<◌, ◌≡◌, length, get_or, take}
use Rattle.std.specs.Prelude.{sum_by}
use Rattle.mdv_tab.specs.Making.{count_name, makes_of, name_count}
use Rattle.mdv_tab.proofs.making.count_makers.Given as goal

abbrev pub invariant-loop-place : goal.invariant-loop-place
invariant-loop-place l = (length l.left.items ≡ name_count l.graph) × ((x : ℕ) → x < name_count l.graph → get_or l.left.items x 0 ≡ sum_by (λ m. count_name m x) (take l.place-index (makes_of l.graph)))
