use Rattle.std.proofs.Common.{◌≡◌, ◌++◌, map, take}
use Rattle.mdv_submirrors.specs.Below.{Resyncing, Whole}
use Rattle.mdv_submirrors.specs.Joining.{joined}
use Rattle.mdv_submirrors.proofs.joining.add_copied.Given as goal

abbrev pub invariant-loop-sub : goal.invariant-loop-sub
invariant-loop-sub l = l.made.items ≡ l.initial.made.items ++ map (joined (Resyncing Whole) l.status) (take l.sub-index l.subs)
