use Rattle.std.proofs.Common.{◌≡◌, map, take, replicate}
use Rattle.mdv_shelf.specs.MemHistory.{start_blocks, latest_blocks, zero_block}
use Rattle.mdv_shelf.proofs.mem_shelf.history.blank_disks.Given as goal

abbrev pub invariant-loop-blocks : goal.invariant-loop-blocks
invariant-loop-blocks l = record {
  start : start_blocks l.disks.items ≡ map (λ n. replicate n zero_block) (take l.blocks-index l.sizes);
  latest : latest_blocks l.disks.items ≡ map (λ n. replicate n zero_block) (take l.blocks-index l.sizes);
}
