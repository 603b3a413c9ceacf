use Rattle.std.proofs.Common.{length, ap, arith}
use Rattle.mdv_remake.proofs.Named.{few_volumes}
use Rattle.mdv_remake.proofs.asked.volumes_in.Goals as goal

pub push-requires : goal.push-requires
push-requires c =
    let so_far = ap length c.loop-name.invariant in
    let few = few_volumes c.args.names.now c.loop-name.name-index in
    let all = c.requires in
    let below = c.loop-name-test.true in
    omega (arith, so_far, few, all, below)
