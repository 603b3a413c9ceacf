use Rattle.std.proofs.Common.{arith}
use Rattle.std.proofs.lemmas.Grind.{common_steps}
use Rattle.mdv_keys.proofs.Any.{there_more}
use Rattle.std.specs.BTreeSet.{contains}
use Rattle.std.specs.Ordering.{nat_cmp}
use Rattle.mdv_change.proofs.seats.set_of.Goals as goal

pub loop-key-init : goal.loop-key-init
loop-key-init c = λ n. grind (arith, common_steps)

pub loop-key-preserved : goal.loop-key-preserved
loop-key-preserved c =
    λ q. there_more c.args.keys.now c.loop-key.key-index 0 q (contains nat_cmp c.loop-key.set q) (contains nat_cmp c.insert.new.self q) c.loop-key-test.true (c.loop-key.invariant q) (c.in_ok-insert.ensures.updates.0 q)
