use Rattle.std.proofs.Common.{◌≡◌, ℕ, ◌∙◌, ap}
use Rattle.mdv_change.specs.Below.{OneVolume, without}
use Rattle.mdv_plan.proofs.Ascending.{without-with_item}
use Rattle.mdv_change.proofs.making.add_volume.Goals as goal

pub returns-in-Err-clause-err : goal.returns-in-Err-clause-err
returns-in-Err-clause-err c =
    let key = λ (w : OneVolume). w.number.0 in
    let volume = c.args.volume in
    let table = c.args.table.now in
    let gone = without-with_item key volume table.plan.volumes c.requires.fresh in
    let added = ap (without key volume.number.0) c.in_ok-insert.ensures.ok in
    let volumes : c.remove.new.self ≡ table.plan.volumes = c.remove.ensures ∙ ap (λ (n : ℕ). without key n c.insert.new.self) c.from-number.ensures ∙ added ∙ gone in
    let states : c.put.new.self ≡ table.status.volumes = c.in-Err.ensures.err in
    λ i. record {
      plan = record { lists = table.plan.lists; set = table.plan.set; pending = table.plan.pending; pools = table.plan.pools; volumes = volumes i };
      status = record { volumes = states i; spares = table.status.spares };
    }
