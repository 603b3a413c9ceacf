use Rattle.std.proofs.Common.{◌≡◌, ◌++◌, take}
use Rattle.std.specs.Prelude.{map}
use Rattle.mdv_plan.specs.Uses.{spare_use}
use Rattle.mdv_plan.proofs.uses.Uses.add_spares.Given as goal

abbrev pub invariant-loop-spare : goal.invariant-loop-spare
invariant-loop-spare l = l.self ≡ l.initial.self ++ map (spare_use l.pool) (take l.spare-index l.spares)
