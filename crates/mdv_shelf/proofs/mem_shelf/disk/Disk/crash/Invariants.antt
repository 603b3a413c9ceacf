use Rattle.std.proofs.Common.{◌≡◌, ◌<◌, ◌≤◌, ℕ, [], length, slice_index, slice_index_or}
use Rattle.mdv_shelf.specs.Tale.{Start, Begun, values}
use Rattle.mdv_shelf.specs.MemHistory.{continued, picked, Becomes}
use Rattle.mdv_shelf.proofs.mem_shelf.disk.Disk.crash.Given as goal

abbrev pub invariant-loop-block : goal.invariant-loop-block
invariant-loop-block l = record {
  size : length l.self.start.items ≡ length l.initial.self.start.items;
  done : (s : Start) → ((k : ℕ) → s.block l.drive k ≡ slice_index_or l.initial.self.start.items k [])
      → Becomes l.self.start.items l.block (λ k. picked (values (continued (Begun s) l.calls) l.drive k) (slice_index l.choice k));
  same : (k : ℕ) → k < l.block → slice_index_or l.self.latest.items k [] ≡ slice_index_or l.self.start.items k [];
  left : (k : ℕ) → l.block ≤ k → slice_index_or l.self.start.items k [] ≡ slice_index_or l.initial.self.start.items k [];
}
