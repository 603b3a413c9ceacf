use Rattle.std.proofs.Common.{◌≡◌, ◌<◌, ℕ, true}
use Rattle.std.specs.List.{slice_get}
use Rattle.mdv_copies.specs.Copies.{is_usable_part}
use Rattle.mdv_copies.proofs.runs.is_whole.Given as goal

abbrev pub invariant-loop-place : goal.invariant-loop-place
invariant-loop-place l = (k : ℕ) → k < l.place → is_usable_part (slice_get l.parts k) ≡ true
