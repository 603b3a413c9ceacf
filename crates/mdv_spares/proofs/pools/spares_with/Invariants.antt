use Rattle.std.proofs.Common.{◌≡◌, ◌++◌, map, take}
use Rattle.mdv_spares.specs.Pools.{spare_on}
use Rattle.mdv_spares.proofs.pools.spares_with.Given as goal

abbrev pub invariant-loop-slice : goal.invariant-loop-slice
invariant-loop-slice l = l.spares ≡ l.had ++ map (spare_on l.geometry l.plan) (take l.slice-index l.slices)
