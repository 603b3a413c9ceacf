use Rattle.std.proofs.Common.{◌≡◌, take}
use Rattle.std.specs.List.{flat_map}
use Rattle.mdv_print.specs.Text.{named_text}
use Rattle.mdv_print.proofs.print.print_named.Given as goal

abbrev pub invariant-loop-name : goal.invariant-loop-name
invariant-loop-name l = l.text.items ≡ flat_map (named_text l.set l.table.plan) (take l.name-index l.names)
