use Rattle.std.proofs.Common.{◌≡◌, ◌++◌, map, take}
use Rattle.mdv_print.specs.Parts.{spare_part}
use Rattle.mdv_print.specs.Words.{next_words}
use Rattle.mdv_print.proofs.line.add_spares.Given as goal

abbrev pub invariant-loop-spare : goal.invariant-loop-spare
invariant-loop-spare l = l.text.items ≡ l.initial.text.items ++ next_words l.set (map spare_part (take l.spare-index l.spares))
