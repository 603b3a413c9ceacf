use Rattle.std.proofs.Common.{◌≡◌, true, take}
use Rattle.std.specs.List.{list_all}
use Rattle.mdv_shape.specs.Covered.{is_covered}
use Rattle.mdv_shape.proofs.covered.are_covered.Given as goal

abbrev pub invariant-loop-volume : goal.invariant-loop-volume
invariant-loop-volume l = list_all (is_covered l.table) (take l.volume-index l.table.plan.volumes) ≡ true
