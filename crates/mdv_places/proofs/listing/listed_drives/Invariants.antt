use Rattle.std.proofs.Common.{take}
use Rattle.mdv_store.specs.Listing.{seats_in}
use Rattle.mdv_places.specs.Losing.{AreDrivesOf}
use Rattle.mdv_places.proofs.listing.listed_drives.Given as goal

abbrev pub invariant-loop-seat : goal.invariant-loop-seat
invariant-loop-seat l = AreDrivesOf l.drives (seats_in l.list (take l.seat-index l.seats))
