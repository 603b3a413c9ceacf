use Rattle.std.proofs.Common.{◌≡◌, ◌≤◌, ◌^◌, take}
use Rattle.mdv_components.specs.Room.{least_room}
use Rattle.mdv_components.proofs.room.least_room.Given as goal

abbrev pub invariant-loop-base : goal.invariant-loop-base
invariant-loop-base l = record {
  value : l.least ≡ least_room l.geometry l.plan (take l.base-index l.bases);
  most : l.least ≤ 2 ^ 63;
}
