use Rattle.std.proofs.Common.{Bool, not, ◌||◌, refl, ap, arith, set}
use Rattle.mdv_shelf.specs.declared.mem_shelf.Health.{Health}
use Rattle.mdv_shelf.proofs.MemLaws.{same_number}
use Rattle.mdv_shelf.proofs.MemFaults.{one_more, one_no_fewer, others_same, other_faults, same_lost}
use Rattle.mdv_shelf.proofs.mem_shelf.MemShelf.fail_on.Goals as goal

pub returns : goal.returns
returns c =
    let now = c.args.self.now in
    let health = now.health.items in
    let h = c.index_mut.result.now in
    let after : Health = record { lost = h.lost; faults = c.count.new.total } in
    let is = c.index_mut.ensures.value in
    record {
      same_tale = refl;
      same_story = refl;
      same_told = refl;
      same_sizes = refl;
      plan = record { same_failing = refl; same_losses = refl; same_stop = refl; same_lost = same_lost health c.args.drive h after is refl };
      call = c.count-2.ensures.sum;
      blocks_written = c.count-3.ensures.sum;
      fault = one_more health c.args.drive h after is 1 (omega (arith, now.each, c.requires, same_number now.history.disks.items)) c.count.ensures.sum;
      no_fewer_faults = one_no_fewer health c.args.drive h after is (omega (arith, now.each, c.requires, same_number now.history.disks.items)) c.count.ensures.no_less;
      no_other_fault = other_faults (set health c.args.drive after) health now.reply_faults c.args.drive (others_same health c.args.drive h after is);
      short = ap (λ (b : Bool). now.short || not b) c.is_asked_on.ensures;
    }
