use Rattle.mdv_store.proofs.Seating.{seats_step, seats_taken}
use Rattle.mdv_store.proofs.booting.seats_of.Goals as goal

pub loop-place-preserved : goal.loop-place-preserved
loop-place-preserved c =
    seats_step c.args.replicas.now c.args.identity c.args.text c.args.places.now c.loop-place.place-index _ c.loop-place.seats c.push.new.self c.replica_at-replica.result c.loop-place-test.true c.loop-place.invariant
    c.replica_at-replica.ensures c.in_ok-push.ensures.ok

pub returns : goal.returns
returns c = seats_taken c.args.replicas.now c.args.identity c.args.text c.args.places.now c.loop-place.place-index c.loop-place.seats c.loop-place-test.false c.loop-place.invariant
