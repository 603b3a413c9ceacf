use Rattle.std.proofs.Common.{◌≡◌, ◌++◌, take}
use Rattle.std.specs.Prelude.{flat_map}
use Rattle.mdv_places.specs.Asked.{places_on}
use Rattle.mdv_places.specs.Below.{SliceLine}
use Rattle.mdv_places.proofs.asked.list_more.Given as goal

abbrev pub invariant-loop-line : goal.invariant-loop-line
invariant-loop-line l = l.list ≡ l.places ++ flat_map (λ (line : SliceLine). places_on l.count l.blocks line.name) (take l.line-index l.lines)
