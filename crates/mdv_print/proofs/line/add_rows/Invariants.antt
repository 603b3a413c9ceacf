use Rattle.std.proofs.Common.{◌≡◌, ◌++◌, take}
use Rattle.std.specs.List.{flat_map}
use Rattle.mdv_print.specs.Parts.{row_parts}
use Rattle.mdv_print.specs.Words.{next_words}
use Rattle.mdv_print.proofs.line.add_rows.Given as goal

abbrev pub invariant-loop-row : goal.invariant-loop-row
invariant-loop-row l = l.text.items ≡ l.initial.text.items ++ next_words l.set (flat_map row_parts (take l.row-index l.rows))
