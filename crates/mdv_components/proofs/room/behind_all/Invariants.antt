use Rattle.std.proofs.Common.{◌≡◌, take}
use Rattle.mdv_components.specs.Room.{behind_all}
use Rattle.mdv_components.proofs.room.behind_all.Given as goal

abbrev pub invariant-loop-place : goal.invariant-loop-place
invariant-loop-place l = l.last ≡ behind_all l.slice l.block (take l.place-index l.place-items)
