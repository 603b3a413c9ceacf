use Rattle.std.proofs.Common.{◌≡◌, ◌++◌, ◌≤◌, ◌+◌, length}
use Rattle.mdv_replacing.specs.Members.{members}
use Rattle.mdv_replacing.proofs.members.members.Given as goal

abbrev pub invariant-loop-rest : goal.invariant-loop-rest
invariant-loop-rest l = record { joined : l.made.items ++ members l.rest l.noted ≡ members l.components l.parts; few : length l.made.items + length l.noted ≤ length l.parts }

abbrev pub decreases-loop-rest : goal.decreases-loop-rest
decreases-loop-rest l = length l.rest
