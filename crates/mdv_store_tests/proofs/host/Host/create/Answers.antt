use Rattle.std.proofs.Common.{rules, ◌≡◌, ◌∙◌}
use Rattle.mdv_shelf.specs.MemShelf.{shelf_sizes}
use Rattle.mdv_store_tests.proofs.Laid.{laid_in}
use Rattle.mdv_store_tests.proofs.host.Host.create.Goals as goal

-- src/host.rt:380:17
pub invariant_of-self-in-Ok : goal.invariant_of-self-in-Ok
invariant_of-self-in-Ok c =
    let sizes : shelf_sizes c.create.new.shelf ≡ c.args.self.now.site.sizes = c.in-Ok.ensures.kept.keeps.same_sizes ∙ c.args.self.now.sized in
    record {
      sound = search rules;
      of = search rules;
      sized = sizes;
      laid = λ x one. laid_in (shelf_sizes c.create.new.shelf) c.args.self.now.site.sizes c.in-Ok.store x sizes c.in-Ok.ensures.answer.formed.2 one;
    }
