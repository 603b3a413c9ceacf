use Rattle.std.proofs.Common.{◌≡◌, ◌<◌, ℕ, slice_index_or}
use Rattle.mdv_base.specs.declared.place.Place.{Place}
use Rattle.mdv_places_tests.proofs.asking.are_once.Given as goal

abbrev pub invariant-loop-index : goal.invariant-loop-index
invariant-loop-index l = (i j : ℕ) (d : Place) → i < j → j < l.index → slice_index_or l.places i d ≡ slice_index_or l.places j d → ⊥
