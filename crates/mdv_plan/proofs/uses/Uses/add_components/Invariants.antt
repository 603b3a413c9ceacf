use Rattle.std.proofs.Common.{◌≡◌, ◌++◌, take}
use Rattle.std.specs.List.{flat_map}
use Rattle.mdv_plan.specs.Uses.{component_uses}
use Rattle.mdv_plan.proofs.uses.Uses.add_components.Given as goal

abbrev pub invariant-loop-component : goal.invariant-loop-component
invariant-loop-component l = l.self ≡ l.initial.self ++ flat_map (component_uses l.volume) (take l.component-index l.components)
