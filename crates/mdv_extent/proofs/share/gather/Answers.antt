use Rattle.std.proofs.Common.{◌≤◌, ◌<◌, ◌-◌, ◌^◌, arith}
use Rattle.std.proofs.lemmas.List.Elements.{All-weaker}
use Rattle.mdv_extent.specs.declared.run.Run.{Run}
use Rattle.mdv_extent.proofs.Sharing.{room_within, each_below}
use Rattle.mdv_extent.proofs.share.gather.Goals as goal

pub total_room-room-requires : goal.total_room-room-requires
total_room-room-requires c = omega (arith, room_within 0 (2 ^ 63) c.args.free.now c.requires.order)

pub share-requires : goal.share-requires
share-requires c =
    All-weaker (λ (r : Run). r.at ≤ 2 ^ 63) (λ (r : Run). r.at < 2 ^ 64 - 1) (λ r le. omega arith) c.args.free.now (each_below 0 (2 ^ 63) c.args.free.now c.requires.order)
