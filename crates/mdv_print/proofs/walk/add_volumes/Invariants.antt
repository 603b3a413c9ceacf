use Rattle.std.proofs.Common.{◌++◌, ◌-◌}
use Rattle.mdv_print.specs.Text.{volumes_text}
use Rattle.mdv_print.proofs.Walking.{WalkSoFar}
use Rattle.mdv_print.proofs.walk.add_volumes.Given as goal

abbrev pub invariant-loop : goal.invariant-loop
invariant-loop l = WalkSoFar l.set l.plan (l.fn.text.items ++ volumes_text l.set l.plan l.volumes) l.text.items l.told l.left.items (l.count - l.counter)
