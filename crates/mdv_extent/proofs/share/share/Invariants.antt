use Rattle.std.proofs.Common.{◌≡◌, ◌≤◌, ◌++◌, drop, length}
use Rattle.mdv_extent.specs.Share.{shared}
use Rattle.mdv_extent.proofs.share.share.Given as goal

abbrev pub invariant-loop-run : goal.invariant-loop-run
invariant-loop-run l = record { few : length l.extents.items ≤ 16; so_far : l.extents.items ++ shared (drop l.run-index l.free) l.rest ≡ shared l.free l.fn.need }
