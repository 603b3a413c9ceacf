use Rattle.std.proofs.Common.{ap, arith, ◌<◌, length}
use Rattle.mdv_votes.specs.Family.{changed_at, wiped as spec_wiped}
use Rattle.mdv_votes.proofs.Listing.{map_step}
use Rattle.mdv_votes.proofs.places.wipe_spot.Goals as goal

pub loop-i-preserved : goal.loop-i-preserved
loop-i-preserved c =
    let within : c.loop-i.i < length c.as_slice.result.now =
    omega (arith, c.loop-i-test.true, c.loop-i.invariant.1, ap length c.as_slice.ensures, ap length c.as_slice-i-end.ensures) in
    map_step (changed_at c.args.p spec_wiped) c.args.places.now c.loop-i.places c.as_slice.result.now c.set.new.self c.loop-i.i _ c.wiped.result within c.as_slice.ensures
    c.loop-i.invariant.0 c.loop-i.invariant.1 c.wiped.ensures c.set.ensures
