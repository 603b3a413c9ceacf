use Rattle.std.proofs.Common.{rules}
use Rattle.mdv_shelf.specs.MemShelf.{shelf_sizes}
use Rattle.mdv_disk_tests.proofs.Pairs.{pair_disjoint, pair_on}
use Rattle.mdv_disk_tests.proofs.stripe_tests.put.Goals as goal

pub write_blocks-answer-requires-clause-on : goal.write_blocks-answer-requires-clause-on
write_blocks-answer-requires-clause-on c =
    pair_on (shelf_sizes c.args.shelf.now) c.in_ok-stripe.stripe.interlace c.in_ok-stripe.stripe.components.now (search rules) (search rules) (search rules)

pub write_blocks-answer-requires-clause-disjoint : goal.write_blocks-answer-requires-clause-disjoint
write_blocks-answer-requires-clause-disjoint c =
    pair_disjoint c.in_ok-stripe.stripe.interlace c.in_ok-stripe.stripe.components.now (search rules) (search rules)
