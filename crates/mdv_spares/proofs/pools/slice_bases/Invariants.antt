use Rattle.std.proofs.Common.{◌≡◌, map, take}
use Rattle.mdv_spares.specs.Pools.{slice_base}
use Rattle.mdv_spares.proofs.pools.slice_bases.Given as goal

abbrev pub invariant-loop-slice : goal.invariant-loop-slice
invariant-loop-slice l = l.bases.items ≡ map slice_base (take l.slice-index l.slices)
