use Rattle.std.proofs.Common.{◌≡◌, ◌≤◌, ◌*◌, take}
use Rattle.std.specs.List.{sum_by}
use Rattle.mdv_codec.specs.Recorded.{width_of}
use Rattle.mdv_codec.proofs.stripe.width_of.Given as goal

abbrev pub invariant-loop-row : goal.invariant-loop-row
invariant-loop-row l = record {
  sum : l.width ≡ sum_by width_of (take l.row-index l.rows);
  most : l.width ≤ 100 * l.row-index;
}
