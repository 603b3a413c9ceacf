use Rattle.mdv_shelf.specs.MemShelf.{shelf_tale, shelf_sizes}
use Rattle.mdv_shelf.proofs.MemCrash.{is_image}
use Rattle.mdv_shelf.proofs.mem_shelf.MemShelf.crash.Goals as goal

pub returns-clause-image : goal.returns-clause-image
returns-clause-image c = is_image (shelf_tale c.args.self.now) (shelf_sizes c.args.self.now) c.args.choice.now
