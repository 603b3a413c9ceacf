use Rattle.std.proofs.Common.{◌≡◌, ◌++◌, take}
use Rattle.std.specs.Prelude.{flat_map}
use Rattle.mdv_engine_law.specs.Places.{places_on}
use Rattle.mdv_engine.proofs.lists.list_more.Given as goal

abbrev pub invariant-loop-slice : goal.invariant-loop-slice
invariant-loop-slice l = l.list ≡ l.places ++ flat_map (places_on l.count l.blocks) (take l.slice-index l.slices)
