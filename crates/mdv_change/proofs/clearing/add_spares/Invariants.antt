use Rattle.std.proofs.Common.{◌≡◌, ◌++◌, take}
use Rattle.std.specs.List.{flat_map}
use Rattle.mdv_change.specs.Clear.{part_spare}
use Rattle.mdv_change.proofs.clearing.add_spares.Given as goal

abbrev pub invariant-loop-part : goal.invariant-loop-part
invariant-loop-part l = l.slices.items ≡ l.initial.slices.items ++ flat_map part_spare (take l.part-index l.parts)
