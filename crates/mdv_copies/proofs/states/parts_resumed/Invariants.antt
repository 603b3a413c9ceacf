use Rattle.std.proofs.Common.{◌≡◌, map, take}
use Rattle.mdv_copies.specs.Below.{part_resumed}
use Rattle.mdv_copies.proofs.states.parts_resumed.Given as goal

abbrev pub invariant-loop-part : goal.invariant-loop-part
invariant-loop-part l = l.made ≡ map (part_resumed l.dirty) (take l.part-index l.items)
