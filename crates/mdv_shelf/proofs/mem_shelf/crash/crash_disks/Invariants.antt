use Rattle.std.proofs.Common.{◌≡◌, ◌≤◌, ℕ, take, drop, sum}
use Rattle.mdv_shelf.specs.Tale.{Start, Begun}
use Rattle.mdv_shelf.specs.MemHistory.{block_of, start_blocks, latest_blocks, lengths, continued, PicksBelow}
use Rattle.mdv_shelf.proofs.mem_shelf.crash.crash_disks.Given as goal

abbrev pub invariant-loop-drive : goal.invariant-loop-drive
invariant-loop-drive l = record {
  sizes : lengths (start_blocks l.disks) ≡ lengths (start_blocks l.initial.disks);
  latest : take l.drive (latest_blocks l.disks) ≡ take l.drive (start_blocks l.disks);
  done : (s : Start) → ((drive block : ℕ) → s.block drive block ≡ block_of (start_blocks l.initial.disks) drive block)
      → PicksBelow l.drive (continued (Begun s) l.calls) (lengths (start_blocks l.initial.disks)) l.choice (start_blocks l.disks);
  left : (drive block : ℕ) → l.drive ≤ drive → block_of (start_blocks l.disks) drive block ≡ block_of (start_blocks l.initial.disks) drive block;
  rest : l.rest ≡ drop (sum (take l.drive (lengths (start_blocks l.initial.disks)))) l.choice;
}
