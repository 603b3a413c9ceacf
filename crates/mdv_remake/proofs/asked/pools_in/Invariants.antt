use Rattle.std.proofs.Common.{◌≡◌, take, flat_map}
use Rattle.mdv_remake.specs.Asked.{pool_named}
use Rattle.mdv_remake.proofs.asked.pools_in.Given as goal

abbrev pub invariant-loop-name : goal.invariant-loop-name
invariant-loop-name l = l.pools ≡ flat_map pool_named (take l.name-index l.names)
