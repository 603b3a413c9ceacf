use Rattle.std.proofs.Common.{rules}
use Rattle.mdv_shelf.specs.MemShelf.{shelf_sizes}
use Rattle.mdv_disk_tests.proofs.Pairs.{pair_disjoint, pair_on}
use Rattle.mdv_disk_tests.proofs.stripe_tests.are_there.Goals as goal

pub read_blocks-requires-clause-on : goal.read_blocks-requires-clause-on
read_blocks-requires-clause-on c =
    pair_on (shelf_sizes c.args.shelf.now) c.in_ok-stripe.stripe.interlace c.in_ok-stripe.stripe.components.now (search rules) (search rules) (search rules)

pub read_blocks-requires-clause-disjoint : goal.read_blocks-requires-clause-disjoint
read_blocks-requires-clause-disjoint c =
    pair_disjoint c.in_ok-stripe.stripe.interlace c.in_ok-stripe.stripe.components.now (search rules) (search rules)
