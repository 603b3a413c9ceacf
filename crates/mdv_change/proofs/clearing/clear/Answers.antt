use Rattle.std.proofs.Common.{◌≡◌, map}
use Rattle.mdv_keys.proofs.Marking.{marks_of_keys}
use Rattle.mdv_change.specs.Below.{OneVolume, Pool, VolumeStatus, kept, pool_key, volume_key}
use Rattle.mdv_change.specs.Clear.{given_back, lost_spares, spare_key, used_spares}
use Rattle.mdv_change.proofs.clearing.clear.Goals as goal

pub returns-clause-ok : goal.returns-clause-ok
returns-clause-ok c =
    let old = c.args.table.now in
    let vs = c.args.volumes.now in
    let qs = c.args.pools.now in
    let named = marks_of_keys volume_key 8192 c.in_ok-named.named vs c.in_ok-named.ensures in
    let named_pools = marks_of_keys pool_key 1000 c.in_ok-named_pools.named_pools qs c.in_ok-named_pools.ensures in
    let volumes : c.remove_marked.new.values ≡ kept (λ (w : OneVolume). w.number.0) (map volume_key vs) old.plan.volumes = c.remove_marked.ensures (map volume_key vs) named in
    let pools : c.remove_marked-2.new.values ≡ kept (λ (q : Pool). q.number.0) (map pool_key qs) old.plan.pools = c.remove_marked-2.ensures (map pool_key qs) named_pools in
    let states : c.remove_marked-3.new.values ≡ kept (λ (w : VolumeStatus). w.number.0) (map volume_key vs) old.status.volumes = c.remove_marked-3.ensures (map volume_key vs) named in
    let spares : c.remove_all.new.values ≡ kept spare_key (lost_spares old.plan qs) (given_back old.status.spares (used_spares old.status vs)) = cc (c.remove_all.ensures, c.give_back.ensures, c.as_slice.ensures.value, c.in_ok-used.ensures, c.requires) in
    λ i. record {
      plan = record { lists = old.plan.lists; set = old.plan.set; pending = old.plan.pending; pools = pools i; volumes = volumes i };
      status = record { volumes = states i; spares = spares i };
    }
