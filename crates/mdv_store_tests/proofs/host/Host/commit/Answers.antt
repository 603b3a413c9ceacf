use Rattle.std.proofs.Common.{rules, ◌≡◌, Some, sym, ◌∙◌}
use Rattle.mdv_shelf.specs.MemShelf.{shelf_sizes}
use Rattle.mdv_store_tests.proofs.Laid.{laid_in, laid_on}
use Rattle.mdv_store_tests.proofs.host.Host.commit.Goals as goal

-- src/host.rt:406:13
pub commit-answer-requires-clause-laid : goal.commit-answer-requires-clause-laid
commit-answer-requires-clause-laid c =
    let is : c.args.self.now.store ≡ Some c.in_ok-store.store = sym c.take.ensures.value ∙ c.in_ok-store.ensures.ok_part in
    laid_on c.args.self.now.site.sizes (shelf_sizes c.args.self.now.shelf) c.in_ok-store.store.seats (sym c.args.self.now.sized) (c.args.self.now.laid c.in_ok-store.store is)

-- src/host.rt:407:9
pub invariant_of-self-2 : goal.invariant_of-self-2
invariant_of-self-2 c =
    let sizes : shelf_sizes c.commit-answer.new.shelf ≡ c.args.self.now.site.sizes = c.commit-answer.ensures.kept.keeps.same_sizes ∙ c.args.self.now.sized in
    record {
      sound = search rules;
      of = search rules;
      sized = sizes;
      laid = λ x one. laid_in (shelf_sizes c.commit-answer.new.shelf) c.args.self.now.site.sizes c.commit-answer.new.self x sizes c.commit-answer.ensures.answer.laid one;
    }
