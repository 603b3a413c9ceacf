use Rattle.std.proofs.Common.{rules}
use Rattle.mdv_shelf.specs.MemShelf.{shelf_sizes}
use Rattle.mdv_store_tests.proofs.Lying.{lies_on}
use Rattle.mdv_store_tests.proofs.host.lies_on.Goals as goal

-- src/host.rt:202:1
pub returns-then-has_drives : goal.returns-then-has_drives
returns-then-has_drives c so =
    lies_on (shelf_sizes c.args.shelf.now) c.args.geometry.now c.args.site.now c.sites_are.ensures c.requires.sound c.requires.of (search rules) (c.are_there.ensures.drives so) (c.are_there.ensures.lines so)
