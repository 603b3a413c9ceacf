use Rattle.std.proofs.Common.{◌≡◌, ◌≤◌, min, drop}
use Rattle.mdv_encoding.specs.Room.{least_room}
use Rattle.mdv_encoding.proofs.room.least_of.Given as goal

abbrev pub invariant-loop-place : goal.invariant-loop-place
invariant-loop-place l = (l.least ≤ 4094) × (min l.least (least_room (drop l.place-index l.places)) ≡ least_room l.places)
