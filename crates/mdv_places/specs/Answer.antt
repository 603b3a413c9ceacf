-- What a change of places answers.
use Rattle.std.specs.Prelude.{◌≡◌, Bool, IfOk, Result}
use Rattle.mdv_shelf.specs.Shelves.{AtEnd, DriveFailures}
use Rattle.mdv_places.specs.Asked.{Asks, KeepsFirst}
use Rattle.mdv_places.specs.Below.{AreLaid, Geometry, Ghosts, Opened}
use Rattle.mdv_places.specs.Changing.{CameOfMove}
use Rattle.mdv_places.specs.Ending.{IsSole}
use Rattle.mdv_places.specs.Moments.{AreBlanked, MoveShows}
use Rattle.mdv_places.specs.Outcomes.{CameByCalls}
use Rattle.mdv_places.specs.declared.changing.PlacesFault.{PlacesFault}

-- What came of a change of places, step by step, and by how the calls came out; the replicas at the places that are active then lie where the next table may be written; what the
-- places show in the end; which masters of dropped places are blank; and, where the first place alone is left, that it is active, so that the database may end.
pub record MoveAnswer {S : Type 0} (shelf : Ghosts S) (from to : S) (g : Geometry) (old new : Opened) (asked : Asks) (result : Result Bool PlacesFault) : Type 0 where
  pub came : CameOfMove shelf from to g old new asked result
  pub laid : AreLaid (shelf.sizes to) new.seats
  pub by : CameByCalls (DriveFailures shelf from to) g old asked new result
  pub shown : AtEnd shelf (MoveShows g old new asked result) from to
  pub wiped : IfOk result (λ clean. AtEnd shelf (λ t u. AreBlanked (DriveFailures shelf from to) g old asked clean u) from to)
  pub sole : asked ≡ KeepsFirst → IfOk result (λ clean. IsSole new)
