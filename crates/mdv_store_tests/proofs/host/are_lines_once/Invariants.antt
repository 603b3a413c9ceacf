use Rattle.std.proofs.Common.{◌≡◌, ◌<◌, ℕ, slice_index_or}
use Rattle.mdv_name.specs.declared.slice_lines.SliceLine.{SliceLine}
use Rattle.mdv_store_tests.proofs.host.are_lines_once.Given as goal

abbrev pub invariant-loop-place : goal.invariant-loop-place
invariant-loop-place l = (i j : ℕ) (d : SliceLine) → i < j → j < l.place → slice_index_or l.lines i d ≡ slice_index_or l.lines j d → ⊥
