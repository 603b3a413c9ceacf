use Rattle.std.proofs.Common.{◌≡◌, ◌++◌, map, take}
use Rattle.mdv_layout.specs.Leaves.{leaf_of}
use Rattle.mdv_layout.proofs.leaf.add_leaves.Given as goal

abbrev pub invariant-loop-component : goal.invariant-loop-component
invariant-loop-component l = l.leaves.items ≡ l.initial.leaves.items ++ map (leaf_of l.geometry) (take l.component-index l.components)
