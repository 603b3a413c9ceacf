use Rattle.std.proofs.Common.{◌≡◌, false, take}
use Rattle.std.specs.List.{list_any}
use Rattle.mdv_copies.specs.Copies.{has_copy}
use Rattle.mdv_copies.proofs.copies.run_of_any.Given as goal

abbrev pub invariant-loop-volume : goal.invariant-loop-volume
invariant-loop-volume l = list_any (has_copy l.table l.block) (take l.volume-index l.volumes) ≡ false
