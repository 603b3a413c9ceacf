use Rattle.std.proofs.Common.{◌≡◌, take}
use Rattle.std.specs.Prelude.{map}
use Rattle.mdv_components.specs.Stripes.{row_on}
use Rattle.mdv_components.proofs.stripes.rows_on.Given as goal

abbrev pub invariant-loop-row : goal.invariant-loop-row
invariant-loop-row l = l.made ≡ map (row_on l.geometry l.plan) (take l.row-index l.rows)
