use Rattle.std.proofs.Common.{◌≡◌, take}
use Rattle.std.specs.Prelude.{flat_map}
use Rattle.mdv_whole.specs.Parted.{row_states}
use Rattle.mdv_whole.proofs.parting.stripe_states.Given as goal

abbrev pub invariant-loop-row : goal.invariant-loop-row
invariant-loop-row l = l.states.items ≡ flat_map row_states (take l.row-index l.rows)
