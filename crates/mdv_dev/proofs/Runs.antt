-- What is asked of a run of one drive.
use Rattle.std.proofs.Common.{ℕ, ◌+◌, ◌<◌, ◌≤◌, List, length, sym, subst, arith}
use Rattle.std.specs.Prelude.{slice_index}
use Rattle.mdv_map.specs.Maps.{run_map}
use Rattle.mdv_map.proofs.Combining.{in_run}
use Rattle.mdv_dev.specs.Pieces.{IsOn}

-- it lies on its drive where that is one of the shelf's, and large enough
pub run_on : (drive first size : ℕ) (sizes : List ℕ) → drive < length sizes → first + size ≤ slice_index sizes drive → IsOn sizes (run_map drive first size)
run_on drive first size sizes known within b other block below has =
    let is = in_run drive first size b other block has in
    subst (λ (d : ℕ). (d < length sizes) × (block < slice_index sizes d)) (sym is.0) (known, omega (arith, within, is.1))
