use Rattle.std.proofs.Common.{◌≡◌, ◌++◌, take}
use Rattle.std.specs.List.{flat_map}
use Rattle.mdv_change.specs.Clear.{lost_spare}
use Rattle.mdv_change.proofs.clearing.add_lost.Given as goal

abbrev pub invariant-loop-spare : goal.invariant-loop-spare
invariant-loop-spare l = l.keys.items ≡ l.initial.keys.items ++ flat_map (lost_spare l.plan l.pools) (take l.spare-index l.spares)
