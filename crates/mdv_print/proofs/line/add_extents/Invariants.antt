use Rattle.std.proofs.Common.{◌≡◌, ◌++◌, take}
use Rattle.std.specs.List.{flat_map}
use Rattle.mdv_print.specs.Parts.{extent_parts}
use Rattle.mdv_print.specs.Words.{next_words}
use Rattle.mdv_print.proofs.line.add_extents.Given as goal

abbrev pub invariant-loop-run : goal.invariant-loop-run
invariant-loop-run l = l.text.items ≡ l.initial.text.items ++ next_words l.set (flat_map extent_parts (take l.run-index l.extents))
