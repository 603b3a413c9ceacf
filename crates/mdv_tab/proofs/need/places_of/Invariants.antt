use Rattle.std.proofs.Common.{take}
use Rattle.mdv_tab.specs.Need.{ArePlacesOf}
use Rattle.mdv_tab.proofs.need.places_of.Given as goal

abbrev pub invariant-loop-entry : goal.invariant-loop-entry
invariant-loop-entry l = ArePlacesOf l.index (take l.entry-index l.entries) l.places.items
