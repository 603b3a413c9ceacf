use Rattle.std.proofs.Common.{◌≡◌, take}
use Rattle.std.specs.List.{flat_map}
use Rattle.mdv_rows.specs.Adding.{parts_of}
use Rattle.mdv_rows.proofs.asking.components_in.Given as goal

abbrev pub invariant-loop-row : goal.invariant-loop-row
invariant-loop-row l = l.parts.items ≡ flat_map parts_of (take l.row-index l.rows)
