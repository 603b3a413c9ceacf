use Rattle.std.proofs.Common.{◌≡◌, ◌^◌, take}
use Rattle.std.specs.Prelude.{min, sum_by}
use Rattle.mdv_submirrors.specs.Sizes.{row_blocks}
use Rattle.mdv_submirrors.proofs.sizes.rows_blocks.Given as goal

abbrev pub invariant-loop-row : goal.invariant-loop-row
invariant-loop-row l = l.blocks ≡ min (sum_by row_blocks (take l.row-index l.rows)) (2 ^ 63)
