use Rattle.std.proofs.Common.{◌≡◌, take}
use Rattle.std.specs.Prelude.{AllPairs}
use Rattle.mdv_base.specs.declared.place.Place.{Place}
use Rattle.mdv_config.proofs.of_geometry.do_differ.Given as goal

abbrev pub invariant-loop-index : goal.invariant-loop-index
invariant-loop-index l = AllPairs (λ (p q : Place). p ≡ q → ⊥) (take l.index l.places)
