use Rattle.std.proofs.Common.{ap, arith, ◌<◌, length}
use Rattle.mdv_votes.specs.Family.{with_since}
use Rattle.mdv_votes.proofs.Listing.{map_step}
use Rattle.mdv_votes.proofs.places.note_list.Goals as goal

pub loop-i-preserved : goal.loop-i-preserved
loop-i-preserved c =
    let within : c.loop-i.i < length c.as_slice.result.now =
    omega (arith, c.loop-i-test.true, c.loop-i.invariant.1, ap length c.as_slice.ensures, ap length c.as_slice-i-end.ensures) in
    map_step (with_since c.args.table c.args.list.now) c.args.places.now c.loop-i.places c.as_slice.result.now c.set.new.self c.loop-i.i _ c.settled.result within c.as_slice.ensures
    c.loop-i.invariant.0 c.loop-i.invariant.1 c.settled.ensures c.set.ensures
