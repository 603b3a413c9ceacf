use Rattle.std.proofs.Common.{◌≤◌}
use Rattle.mdv_places.specs.Losing.{AreMissed}
use Rattle.mdv_places.proofs.listing.leave.Given as goal

abbrev pub invariant-loop-number : goal.invariant-loop-number
invariant-loop-number l = record { missed : AreMissed l.number l.fn.lost l.tried l.up l.lost; fits : l.number ≤ 256 }
