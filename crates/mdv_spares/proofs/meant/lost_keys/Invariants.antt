use Rattle.std.proofs.Common.{◌≡◌, take}
use Rattle.std.specs.List.{flat_map}
use Rattle.mdv_spares.specs.Meant.{lost_key}
use Rattle.mdv_spares.proofs.meant.lost_keys.Given as goal

abbrev pub invariant-loop-slice : goal.invariant-loop-slice
invariant-loop-slice l = l.keys.items ≡ flat_map (lost_key l.plan l.meant) (take l.slice-index l.slices)
