use Rattle.std.proofs.Common.{◌≡◌, take}
use Rattle.mdv_acts.specs.Wipes.{wipe_order}
use Rattle.mdv_acts.proofs.wiping.wipe_order.Given as goal

abbrev pub invariant-loop-place : goal.invariant-loop-place
invariant-loop-place l = l.ordered ≡ wipe_order (take l.place-index l.places)
