use Rattle.std.proofs.Common.{◌≡◌, ◌++◌, map, take}
use Rattle.mdv_print.specs.Parts.{component_part}
use Rattle.mdv_print.specs.Words.{next_words}
use Rattle.mdv_print.proofs.line.add_components.Given as goal

abbrev pub invariant-loop-component : goal.invariant-loop-component
invariant-loop-component l = l.text.items ≡ l.initial.text.items ++ next_words l.set (map component_part (take l.component-index l.components))
