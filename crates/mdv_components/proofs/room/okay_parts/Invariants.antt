use Rattle.std.proofs.Common.{◌≡◌, take}
use Rattle.std.specs.Prelude.{map}
use Rattle.mdv_components.specs.Room.{okay_part}
use Rattle.mdv_components.proofs.room.okay_parts.Given as goal

abbrev pub invariant-loop-base : goal.invariant-loop-base
invariant-loop-base g l = l.parts ≡ map okay_part (take l.base-index l.bases)
