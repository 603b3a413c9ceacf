use Rattle.std.proofs.Common.{◌≡◌, ◌^◌, take}
use Rattle.std.specs.Prelude.{min, sum_by}
use Rattle.mdv_components.specs.Room.{run_blocks}
use Rattle.mdv_components.proofs.room.soft_blocks.Given as goal

abbrev pub invariant-loop-run : goal.invariant-loop-run
invariant-loop-run l = l.blocks ≡ min (sum_by run_blocks (take l.run-index l.extents)) (2 ^ 63)
