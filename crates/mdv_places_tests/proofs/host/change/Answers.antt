use Rattle.std.proofs.Common.{rules, ◌≡◌, Some, sym, ◌∙◌}
use Rattle.mdv_shelf.specs.MemShelf.{shelf_sizes}
use Rattle.mdv_store_tests.proofs.Laid.{laid_in, laid_on}
use Rattle.mdv_places_tests.proofs.host.change.Goals as goal

pub change_places-answer-requires-clause-laid : goal.change_places-answer-requires-clause-laid
change_places-answer-requires-clause-laid c =
    let is : c.args.host.now.store ≡ Some c.in_ok-store.store = sym c.take.ensures.value ∙ c.in_ok-store.ensures.ok_part in
    laid_on c.args.host.now.site.sizes (shelf_sizes c.args.host.now.shelf) c.in_ok-store.store.seats (sym c.args.host.now.sized) (c.args.host.now.laid c.in_ok-store.store is)

pub invariant_of-host-2 : goal.invariant_of-host-2
invariant_of-host-2 c =
    let sizes : shelf_sizes c.change_places-answer.new.shelf ≡ c.args.host.now.site.sizes = c.change_places-answer.ensures.kept.keeps.same_sizes ∙ c.args.host.now.sized in
    record {
      sound = search rules;
      of = search rules;
      sized = sizes;
      laid = λ x one. laid_in (shelf_sizes c.change_places-answer.new.shelf) c.args.host.now.site.sizes c.change_places-answer.new.store x sizes c.change_places-answer.ensures.answer.laid one;
    }
