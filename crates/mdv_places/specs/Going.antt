-- What the log of a database issues while its places change.
pub use Rattle.mdv_standing.specs.Tracing.{GoesTracedBy, TracesBy}
use Rattle.mdv_store_law.specs.Log.{ChangesAndPlaces, Issue}
use Rattle.mdv_places.specs.Asked.{Asks, places_added}

-- changes, and formats of the places that are added
abbrev pub IsMoving : Asks → Issue → Type 0
IsMoving asked = ChangesAndPlaces (places_added asked)
