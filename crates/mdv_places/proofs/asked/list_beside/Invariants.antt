use Rattle.std.proofs.Common.{◌≡◌, ◌≤◌, length, take}
use Rattle.mdv_config.specs.Lists.{beside}
use Rattle.mdv_places.proofs.asked.list_beside.Given as goal

abbrev pub invariant-loop-place : goal.invariant-loop-place
invariant-loop-place l = record { are : l.list ≡ beside l.other (take l.place-index l.places); few : length l.list ≤ l.place-index }
