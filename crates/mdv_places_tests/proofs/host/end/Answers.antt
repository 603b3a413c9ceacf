use Rattle.std.proofs.Common.{◌≡◌, Some, sym, ◌∙◌}
use Rattle.mdv_shelf.specs.MemShelf.{shelf_sizes}
use Rattle.mdv_store_tests.proofs.Laid.{laid_on}
use Rattle.mdv_places_tests.proofs.host.end.Goals as goal

pub end-requires-clause-laid : goal.end-requires-clause-laid
end-requires-clause-laid c =
    let is : c.args.host.now.store ≡ Some c.in_ok-store.store = sym c.take.ensures.value ∙ c.in_ok-store.ensures.ok_part in
    laid_on c.args.host.now.site.sizes (shelf_sizes c.args.host.now.shelf) c.in_ok-store.store.seats (sym c.args.host.now.sized) (c.args.host.now.laid c.in_ok-store.store is)
