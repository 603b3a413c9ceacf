use Rattle.std.proofs.Common.{rules, ◌≡◌, ℕ, List, sym, ◌∙◌, subst}
use Rattle.mdv_shelf.specs.MemShelf.{shelf_sizes}
use Rattle.mdv_store.specs.Boot.{IfAdopted}
use Rattle.mdv_store.specs.Seats.{AreLaid}
use Rattle.mdv_store_tests.proofs.Laid.{laid_on}
use Rattle.mdv_store_tests.proofs.host.Host.boot.Goals as goal

-- src/host.rt:395:9
pub store_of-requires : goal.store_of-requires
store_of-requires c =
    subst (λ (sizes : List ℕ). IfAdopted c.boot-booted.result.end (λ o. AreLaid sizes o.seats)) (sym c.boot-booted.ensures.kept.keeps.same_sizes) c.boot-booted.ensures.answer.laid

-- src/host.rt:395:9
pub invariant_of-self-2 : goal.invariant_of-self-2
invariant_of-self-2 c =
    let sizes : shelf_sizes c.boot-booted.new.shelf ≡ c.args.self.now.site.sizes = c.boot-booted.ensures.kept.keeps.same_sizes ∙ c.args.self.now.sized in
    record {
      sound = search rules;
      of = search rules;
      sized = sizes;
      laid = λ x one. laid_on (shelf_sizes c.boot-booted.new.shelf) c.args.self.now.site.sizes x.seats sizes (c.store_of.ensures x one);
    }
