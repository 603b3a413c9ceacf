use Rattle.std.proofs.Common.{◌≡◌, ◌<◌, ℕ, slice_index_or}
use Rattle.mdv_base.specs.declared.place.Place.{Place}
use Rattle.mdv_store.specs.Letters.{places_seen}
use Rattle.mdv_store.proofs.letters.Letters.are_of.Given as goal

abbrev pub invariant-loop-index : goal.invariant-loop-index
invariant-loop-index l = (k : ℕ) (d : Place) → k < l.index → slice_index_or (places_seen l.seen) k d ≡ slice_index_or l.places k d
