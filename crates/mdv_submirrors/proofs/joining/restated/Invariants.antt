use Rattle.std.proofs.Common.{◌≡◌, map, take}
use Rattle.mdv_submirrors.specs.Joining.{with_state}
use Rattle.mdv_submirrors.proofs.joining.restated.Given as goal

abbrev pub invariant-loop-part : goal.invariant-loop-part
invariant-loop-part l = l.made ≡ map (with_state l.state) (take l.part-index l.items)
