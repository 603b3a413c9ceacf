use Rattle.std.proofs.Common.{◌≡◌, take}
use Rattle.mdv_spares.specs.Pools.{with_states}
use Rattle.mdv_spares.proofs.states.with_states.Given as goal

abbrev pub invariant-loop-slice : goal.invariant-loop-slice
invariant-loop-slice l = l.made ≡ with_states l.states (take l.slice-index l.slices)
