use Rattle.std.proofs.Common.{◌≡◌, ◌≤◌, ◌*◌, take}
use Rattle.std.specs.Prelude.{sum_by}
use Rattle.mdv_config.specs.Table.{width}
use Rattle.mdv_config.proofs.rows.width_of.Given as goal

abbrev pub invariant-loop-row : goal.invariant-loop-row
invariant-loop-row l = record {
  count : l.count ≡ sum_by width (take l.row-index l.row-items);
  few : l.count ≤ l.row-index * 100;
}
