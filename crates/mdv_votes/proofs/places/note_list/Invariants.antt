use Rattle.std.proofs.Common.{◌≡◌, ◌++◌, map, take, drop, length}
use Rattle.mdv_votes.specs.Family.{with_since}
use Rattle.mdv_votes.proofs.places.note_list.Given as goal

abbrev pub invariant-loop-i : goal.invariant-loop-i
invariant-loop-i l = (l.places ≡ map (with_since l.table l.list) (take l.i l.initial.places) ++ drop l.i l.initial.places) × (length l.places ≡ length l.initial.places)
