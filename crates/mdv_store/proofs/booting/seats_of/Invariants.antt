use Rattle.std.proofs.Common.{◌≡◌, take}
use Rattle.mdv_store.specs.Boot.{seats_of}
use Rattle.mdv_store.proofs.booting.seats_of.Given as goal

abbrev pub invariant-loop-place : goal.invariant-loop-place
invariant-loop-place l = l.seats ≡ seats_of l.replicas l.identity l.text (take l.place-index l.places)
