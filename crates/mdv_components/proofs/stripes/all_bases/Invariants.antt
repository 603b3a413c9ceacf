use Rattle.std.proofs.Common.{◌≡◌, take}
use Rattle.mdv_components.specs.Stripes.{all_bases}
use Rattle.mdv_components.proofs.stripes.all_bases.Given as goal

abbrev pub invariant-loop-row : goal.invariant-loop-row
invariant-loop-row l = l.bases.items ≡ all_bases (take l.row-index l.rows)
