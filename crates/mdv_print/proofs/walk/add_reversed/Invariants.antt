use Rattle.std.proofs.Common.{◌≡◌, ◌++◌, length, reverse}
use Rattle.mdv_print.proofs.walk.add_reversed.Given as goal

abbrev pub invariant-loop-volume : goal.invariant-loop-volume
invariant-loop-volume l = l.list.items ++ reverse l.volumes.items ≡ l.initial.list.items ++ reverse l.initial.volumes.items

abbrev pub decreases-loop-volume : goal.decreases-loop-volume
decreases-loop-volume l = length l.volumes.items
