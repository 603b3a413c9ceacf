use Rattle.std.proofs.Common.{◌≡◌, map, take}
use Rattle.mdv_submirrors.specs.Mirrors.{starts_offline}
use Rattle.mdv_submirrors.proofs.mirrors.none_offline.Given as goal

abbrev pub invariant-loop-sub : goal.invariant-loop-sub
invariant-loop-sub l = l.flags ≡ map starts_offline (take l.sub-index l.subs)
