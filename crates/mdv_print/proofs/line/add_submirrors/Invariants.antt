use Rattle.std.proofs.Common.{◌≡◌, ◌++◌, map, take}
use Rattle.mdv_print.specs.Parts.{submirror_part}
use Rattle.mdv_print.specs.Words.{next_words}
use Rattle.mdv_print.proofs.line.add_submirrors.Given as goal

abbrev pub invariant-loop-submirror : goal.invariant-loop-submirror
invariant-loop-submirror l = l.text.items ≡ l.initial.text.items ++ next_words l.set (map submirror_part (take l.submirror-index l.submirrors))
