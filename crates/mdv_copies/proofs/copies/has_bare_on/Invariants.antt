use Rattle.std.proofs.Common.{◌≡◌, ◌≤◌, ◌-◌, false}
use Rattle.mdv_copies.specs.Copies.{any_below, is_bare_on}
use Rattle.mdv_copies.proofs.copies.has_bare_on.Given as goal

abbrev pub invariant-loop-at : goal.invariant-loop-at
invariant-loop-at l = record { within : l.at ≤ l.blocks; none : any_below (is_bare_on l.table l.volumes l.volume l.on) l.at ≡ false }

abbrev pub decreases-loop-at : goal.decreases-loop-at
decreases-loop-at l = l.blocks - l.at
