use Rattle.std.proofs.Common.{◌≡◌, ◌+◌, ◌++◌, drop}
use Rattle.mdv_status.specs.Values.{values_text}
use Rattle.mdv_status.proofs.values.push_lines.Given as goal

abbrev pub invariant-loop-index : goal.invariant-loop-index
invariant-loop-index l = l.text.items ++ values_text (l.at + l.index) (drop l.index l.blocks) ≡ l.fn.text.items ++ values_text l.at l.blocks
