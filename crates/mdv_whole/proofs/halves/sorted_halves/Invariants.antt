use Rattle.std.proofs.Common.{◌≡◌, take, map}
use Rattle.mdv_whole.proofs.halves.sorted_halves.Given as goal

abbrev pub invariant-loop-item : goal.invariant-loop-item
invariant-loop-item g l = l.sides.items ≡ map g.R.Half.half (take l.item-index l.items)
