use Rattle.std.proofs.Common.{◌≡◌, ℕ, take}
use Rattle.mdv_fitting.specs.Held.{held}
use Rattle.mdv_fitting.specs.Keys.{start_at}
use Rattle.mdv_fitting.proofs.bases.first_starts.Given as goal

abbrev pub invariant-loop-volume : goal.invariant-loop-volume
invariant-loop-volume l = (k : ℕ) → held l.starts k ≡ start_at k (take l.volume-index l.volumes)
