use Rattle.std.proofs.Common.{◌≡◌, take}
use Rattle.mdv_submirrors.specs.Mirrors.{mirror_blocks}
use Rattle.mdv_submirrors.proofs.mirrors.mirror_blocks.Given as goal

abbrev pub invariant-loop-sub : goal.invariant-loop-sub
invariant-loop-sub l = l.least ≡ mirror_blocks l.plan (take l.sub-index l.subs)
