use Rattle.std.proofs.Common.{◌≡◌, ◌≤◌, ◌+◌, ◌++◌, length, take}
use Rattle.mdv_config.specs.Lists.{beside}
use Rattle.mdv_config.proofs.each.EachPlace.add_beside.Given as goal

abbrev pub invariant-loop-place : goal.invariant-loop-place
invariant-loop-place l = record {
  added : l.self ≡ l.initial.self ++ beside l.old (take l.place-index l.new);
  few : length l.self ≤ length l.initial.self + l.place-index;
}
