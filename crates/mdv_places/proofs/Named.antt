-- What is asked is the change that a log tells: it makes the table with both lists.
use Rattle.std.proofs.Common.{refl}
use Rattle.mdv_places.specs.Asked.{Adds, Asks, Drops, KeepsFirst, change_of}
use Rattle.mdv_places.specs.Below.{Geometry, Opened}
use Rattle.mdv_places.specs.Moments.{IsChangeOf}

pub change_is : (g : Geometry) (o : Opened) (asked : Asks) → IsChangeOf g o asked (change_of asked)
change_is g o (Adds lines count blocks) = refl
change_is g o (Drops slices) = refl
change_is g o KeepsFirst = refl
