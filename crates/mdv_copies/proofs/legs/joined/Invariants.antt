use Rattle.std.proofs.Common.{◌≡◌, ◌++◌, ◌≤◌, ◌+◌, length}
use Rattle.mdv_copies.specs.Legs.{legs}
use Rattle.mdv_copies.proofs.legs.joined.Given as goal

abbrev pub invariant-loop-rest : goal.invariant-loop-rest
invariant-loop-rest l = record { joined : l.made ++ legs l.rest l.noted ≡ legs l.subs l.flags; few : length l.made + length l.rest ≤ 4 }

abbrev pub decreases-loop-rest : goal.decreases-loop-rest
decreases-loop-rest l = length l.rest
