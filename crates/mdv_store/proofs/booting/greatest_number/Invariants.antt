use Rattle.std.proofs.Common.{◌≡◌, take}
use Rattle.mdv_store.specs.Boot.{greatest_number}
use Rattle.mdv_store.proofs.booting.greatest_number.Given as goal

abbrev pub invariant-loop-replica : goal.invariant-loop-replica
invariant-loop-replica l = l.greatest ≡ greatest_number l.identity (take l.replica-index l.replicas)
