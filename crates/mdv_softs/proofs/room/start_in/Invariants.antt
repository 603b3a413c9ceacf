use Rattle.std.proofs.Common.{◌≡◌, length}
use Rattle.mdv_softs.specs.Room.{start_in}
use Rattle.mdv_softs.proofs.room.start_in.Given as goal

abbrev pub invariant-loop-rest : goal.invariant-loop-rest
invariant-loop-rest l = start_in l.volumes l.base ≡ start_in l.rest l.base

abbrev pub decreases-loop-rest : goal.decreases-loop-rest
decreases-loop-rest l = length l.rest
