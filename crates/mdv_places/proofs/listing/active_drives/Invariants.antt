use Rattle.std.proofs.Common.{take}
use Rattle.mdv_places.specs.Losing.{AreDrivesOf}
use Rattle.mdv_places.proofs.listing.active_drives.Given as goal

abbrev pub invariant-loop-seat : goal.invariant-loop-seat
invariant-loop-seat l = AreDrivesOf l.drives (take l.seat-index l.seats)
