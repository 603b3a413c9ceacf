use Rattle.std.proofs.Common.{◌≡◌, take}
use Rattle.mdv_config.proofs.lists.copy_of.Given as goal

abbrev pub invariant-loop-place : goal.invariant-loop-place
invariant-loop-place l = l.copy ≡ take l.place-index l.place-items
