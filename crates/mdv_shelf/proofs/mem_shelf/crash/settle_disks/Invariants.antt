use Rattle.std.proofs.Common.{◌≡◌, take}
use Rattle.mdv_shelf.specs.MemHistory.{start_blocks, latest_blocks}
use Rattle.mdv_shelf.proofs.mem_shelf.crash.settle_disks.Given as goal

abbrev pub invariant-loop-i : goal.invariant-loop-i
invariant-loop-i l = record {
  latest : latest_blocks l.disks ≡ latest_blocks l.initial.disks;
  start : take l.i (start_blocks l.disks) ≡ take l.i (latest_blocks l.initial.disks);
}
