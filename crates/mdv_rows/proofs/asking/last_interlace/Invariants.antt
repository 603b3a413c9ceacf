use Rattle.std.proofs.Common.{◌≡◌, take}
use Rattle.mdv_rows.specs.Adding.{last_interlace}
use Rattle.mdv_rows.proofs.asking.last_interlace.Given as goal

abbrev pub invariant-loop-row : goal.invariant-loop-row
invariant-loop-row l = l.interlace ≡ last_interlace (take l.row-index l.rows)
