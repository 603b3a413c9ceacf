use Rattle.std.proofs.Common.{◌≡◌, ◌++◌, take}
use Rattle.std.specs.List.{flat_map}
use Rattle.mdv_plan.specs.Uses.{row_uses}
use Rattle.mdv_plan.proofs.uses.Uses.add_rows.Given as goal

abbrev pub invariant-loop-row : goal.invariant-loop-row
invariant-loop-row l = l.self ≡ l.initial.self ++ flat_map (row_uses l.volume) (take l.row-index l.rows)
