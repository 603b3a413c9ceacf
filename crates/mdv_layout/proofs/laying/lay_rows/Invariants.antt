use Rattle.std.proofs.Common.{◌≡◌, length, map, sum_by, take}
use Rattle.mdv_layout.specs.Below.{Plan, row_map, width}
use Rattle.mdv_layout.specs.Layouts.{IsLayout, row_maps}
use Rattle.mdv_layout.proofs.laying.lay_rows.Given as goal

abbrev pub invariant-loop-row : goal.invariant-loop-row
invariant-loop-row l = record {
  well : IsLayout l.layout;
  laid : (p : Plan) → row_maps l.layout ≡ map (row_map l.geometry p) (take l.row-index l.row-items);
  count : length l.layout.leaves.items ≡ sum_by width (take l.row-index l.row-items);
}
