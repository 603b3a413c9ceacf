use Rattle.std.proofs.Common.{◌≡◌, ◌++◌, drop}
use Rattle.mdv_tab.specs.Order.{volumes_of}
use Rattle.mdv_tab.proofs.need.add_volumes.Given as goal

abbrev pub invariant-loop-component : goal.invariant-loop-component
invariant-loop-component l = l.names.items ++ volumes_of (drop l.component-index l.components) ≡ l.initial.names.items ++ volumes_of l.components
