use Rattle.std.proofs.Common.{refl, false, set}
use Rattle.std.proofs.lemmas.List.{map-set}
use Rattle.mdv_shelf.specs.declared.mem_shelf.Health.{Health}
use Rattle.mdv_shelf.proofs.MemFaults.{same_fault_list, same_faults}
use Rattle.mdv_shelf.proofs.mem_shelf.MemShelf.bring_back.Goals as goal

pub returns-clause-lost : goal.returns-clause-lost
returns-clause-lost c = map-set (λ (x : Health). x.lost) c.args.self.now.health.items c.args.drive.0 (record { lost = false; faults = c.index_mut.result.now.faults })

pub returns-clause-counts : goal.returns-clause-counts
returns-clause-counts c =
    let after : Health = record { lost = false; faults = c.index_mut.result.now.faults } in
    record {
      same_told = c.bring_back.ensures.told;
      same_sizes = c.bring_back.ensures.sizes;
      same_calls = c.bring_back-2.ensures.calls;
      same_blocks = refl;
      same_faults = same_faults (set c.args.self.now.health.items c.args.drive.0 after) c.args.self.now.health.items c.args.self.now.reply_faults
          (same_fault_list c.args.self.now.health.items c.args.drive.0 c.index_mut.result.now after c.index_mut.ensures.value refl);
      same_short = refl;
    }
