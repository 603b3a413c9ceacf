use Rattle.std.proofs.Common.{◌≡◌, take}
use Rattle.std.specs.Prelude.{map}
use Rattle.mdv_remake.specs.Asked.{row_of}
use Rattle.mdv_remake.proofs.asked.rows_of.Given as goal

abbrev pub invariant-loop-row : goal.invariant-loop-row
invariant-loop-row l = l.asked ≡ map row_of (take l.row-index l.rows)
