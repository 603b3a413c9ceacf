use Rattle.std.proofs.Common.{◌≡◌, ◌++◌, map, take, drop, length}
use Rattle.mdv_votes.specs.Family.{changed_at, wiped as spec_wiped}
use Rattle.mdv_votes.proofs.places.wipe_spot.Given as goal

abbrev pub invariant-loop-i : goal.invariant-loop-i
invariant-loop-i l = (l.places ≡ map (changed_at l.p spec_wiped) (take l.i l.initial.places) ++ drop l.i l.initial.places) × (length l.places ≡ length l.initial.places)
