use Rattle.std.proofs.Common.{◌≡◌, ◌++◌, drop}
use Rattle.mdv_tab.specs.Order.{volumes_of_rows}
use Rattle.mdv_tab.proofs.need.add_rows.Given as goal

abbrev pub invariant-loop-row : goal.invariant-loop-row
invariant-loop-row l = l.names.items ++ volumes_of_rows (drop l.row-index l.rows) ≡ l.initial.names.items ++ volumes_of_rows l.rows
