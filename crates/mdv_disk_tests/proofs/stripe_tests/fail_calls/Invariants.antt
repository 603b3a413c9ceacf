use Rattle.std.proofs.Common.{◌≡◌}
use Rattle.mdv_shelf.specs.MemShelf.{shelf_sizes}
use Rattle.mdv_disk_tests.proofs.stripe_tests.fail_calls.Given as goal

abbrev pub invariant-loop-call : goal.invariant-loop-call
invariant-loop-call l = shelf_sizes l.shelf ≡ shelf_sizes l.fn.shelf
