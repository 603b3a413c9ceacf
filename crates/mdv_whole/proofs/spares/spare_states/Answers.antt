use Rattle.std.proofs.Common.{lit<, ◌∙◌}
use Rattle.mdv_whole.proofs.Holding.{all_held, all_sorted}
use Rattle.mdv_whole.proofs.spares.spare_states.Goals as goal

pub from_ascending-requires : goal.from_ascending-requires
from_ascending-requires c = (lit< tt, all_sorted c.loop-pool.noted c.args.pools.now c.loop-pool.pool-index c.in_ok-states.states.items c.loop-pool-test.false c.loop-pool.invariant c.in_ok-states.ensures c.len-ascending.ensures.ordered)

pub returns : goal.returns
returns c = c.from_ascending.ensures ∙ all_held c.loop-pool.noted c.args.pools.now c.loop-pool.pool-index c.in_ok-states.states.items c.loop-pool-test.false c.loop-pool.invariant c.in_ok-states.ensures
