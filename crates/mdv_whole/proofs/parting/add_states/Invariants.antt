use Rattle.std.proofs.Common.{◌≡◌, ◌++◌, take, map}
use Rattle.mdv_whole.specs.Parted.{status_in}
use Rattle.mdv_whole.proofs.parting.add_states.Given as goal

abbrev pub invariant-loop-part : goal.invariant-loop-part
invariant-loop-part l = l.states.items ≡ l.fn.states.items ++ map status_in (take l.part-index l.parts)
