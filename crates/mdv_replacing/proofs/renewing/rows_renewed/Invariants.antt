use Rattle.std.proofs.Common.{◌≡◌, map, take}
use Rattle.mdv_replacing.specs.Renewing.{row_renewed}
use Rattle.mdv_replacing.proofs.renewing.rows_renewed.Given as goal

abbrev pub invariant-loop-row : goal.invariant-loop-row
invariant-loop-row l = l.made ≡ map (row_renewed l.old l.new l.start) (take l.row-index l.items)
