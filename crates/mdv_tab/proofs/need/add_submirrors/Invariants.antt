use Rattle.std.proofs.Common.{◌≡◌, ◌++◌, drop}
use Rattle.mdv_tab.specs.Order.{submirror_names}
use Rattle.mdv_tab.proofs.need.add_submirrors.Given as goal

abbrev pub invariant-loop-volume : goal.invariant-loop-volume
invariant-loop-volume l = l.names.items ++ submirror_names (drop l.volume-index l.submirrors) ≡ l.initial.names.items ++ submirror_names l.submirrors
