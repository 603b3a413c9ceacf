use Rattle.std.proofs.Common.{◌≡◌, ◌≤◌, ◌-◌, false}
use Rattle.mdv_copies.specs.Copies.{any_below, is_bare}
use Rattle.mdv_copies.proofs.copies.has_bare.Given as goal

abbrev pub invariant-loop-block : goal.invariant-loop-block
invariant-loop-block l = record { within : l.block ≤ l.blocks; none : any_below (is_bare l.table l.volumes) l.block ≡ false }

abbrev pub decreases-loop-block : goal.decreases-loop-block
decreases-loop-block l = l.blocks - l.block
