use Rattle.std.proofs.Common.{◌≡◌, ◌++◌, take}
use Rattle.std.specs.List.{flat_map}
use Rattle.mdv_plan.specs.Named.{component_below}
use Rattle.mdv_plan.proofs.named.add_components.Given as goal

abbrev pub invariant-loop-component : goal.invariant-loop-component
invariant-loop-component l = l.list.items ≡ l.initial.list.items ++ flat_map component_below (take l.component-index l.components)
