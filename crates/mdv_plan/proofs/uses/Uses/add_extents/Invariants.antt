use Rattle.std.proofs.Common.{◌≡◌, ◌++◌, take}
use Rattle.std.specs.List.{flat_map}
use Rattle.mdv_plan.specs.Uses.{extent_uses}
use Rattle.mdv_plan.proofs.uses.Uses.add_extents.Given as goal

abbrev pub invariant-loop-run : goal.invariant-loop-run
invariant-loop-run l = l.self ≡ l.initial.self ++ flat_map (extent_uses l.volume l.soft.base l.soft.start) (take l.run-index l.run-items)
