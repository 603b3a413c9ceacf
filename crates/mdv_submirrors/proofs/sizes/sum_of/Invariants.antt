use Rattle.std.proofs.Common.{◌≡◌, ◌^◌, take}
use Rattle.std.specs.Prelude.{min, sum_by}
use Rattle.mdv_submirrors.specs.Sizes.{part_blocks}
use Rattle.mdv_submirrors.proofs.sizes.sum_of.Given as goal

abbrev pub invariant-loop-component : goal.invariant-loop-component
invariant-loop-component l = l.blocks ≡ min (sum_by part_blocks (take l.component-index l.components)) (2 ^ 63)
