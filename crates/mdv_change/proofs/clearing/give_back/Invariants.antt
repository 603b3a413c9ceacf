use Rattle.std.proofs.Common.{◌≡◌, take}
use Rattle.mdv_change.specs.Clear.{given_back}
use Rattle.mdv_change.proofs.clearing.give_back.Given as goal

abbrev pub invariant-loop-slice : goal.invariant-loop-slice
invariant-loop-slice g l = l.spares ≡ given_back l.initial.spares (take l.slice-index l.slices)
