use Rattle.std.proofs.Common.{refl, true, set}
use Rattle.std.proofs.lemmas.List.{map-set}
use Rattle.mdv_shelf.specs.declared.mem_shelf.Health.{Health}
use Rattle.mdv_shelf.proofs.MemFaults.{same_fault_list, same_faults}
use Rattle.mdv_shelf.proofs.mem_shelf.MemShelf.lose.Goals as goal

pub returns-clause-lost : goal.returns-clause-lost
returns-clause-lost c = map-set (λ (x : Health). x.lost) c.args.self.now.health.items c.args.drive.0 (record { lost = true; faults = c.index_mut.result.now.faults })

pub returns-clause-untouched : goal.returns-clause-untouched
returns-clause-untouched c =
    let after : Health = record { lost = true; faults = c.index_mut.result.now.faults } in
    record {
      same_tale = refl;
      same_story = refl;
      counts = record {
        same_told = refl;
        same_sizes = refl;
        same_calls = refl;
        same_blocks = refl;
        same_faults = same_faults (set c.args.self.now.health.items c.args.drive.0 after) c.args.self.now.health.items c.args.self.now.reply_faults
            (same_fault_list c.args.self.now.health.items c.args.drive.0 c.index_mut.result.now after c.index_mut.ensures.value refl);
        same_short = refl;
      };
    }
