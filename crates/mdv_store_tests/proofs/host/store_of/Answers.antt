use Rattle.std.proofs.Common.{refl, subst}
use Rattle.mdv_shelf.specs.MemShelf.{shelf_sizes}
use Rattle.mdv_store.specs.Boot.{IfAdopted}
use Rattle.mdv_store.specs.Seats.{AreLaid}
use Rattle.mdv_store.specs.declared.booting.BootEnd.{BootEnd}
use Rattle.mdv_store_tests.proofs.Laid.{laid_in}
use Rattle.mdv_store_tests.proofs.host.store_of.Goals as goal

-- src/host.rt:332:1
pub returns-in-Adopted : goal.returns-in-Adopted
returns-in-Adopted c x one =
    let sizes = shelf_sizes c.args.shelf.now in
    laid_in sizes sizes c.in-Adopted.store x refl (subst (λ (end : BootEnd). IfAdopted end (λ o. AreLaid sizes o.seats)) c.in-Adopted.is c.requires) one
