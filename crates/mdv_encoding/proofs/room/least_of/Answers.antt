use Rattle.std.proofs.Common.{arith}
use Rattle.mdv_encoding.proofs.Rooms.{room_most}
use Rattle.mdv_encoding.proofs.room.least_of.Goals as goal

pub loop-place-init : goal.loop-place-init
loop-place-init c = (omega arith, omega (arith, room_most c.args.places.now))
