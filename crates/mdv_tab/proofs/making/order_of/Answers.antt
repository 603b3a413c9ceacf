use Rattle.std.proofs.Common.{arith}
use Rattle.mdv_tab.specs.Making.{NeedsIn, count_of}
use Rattle.mdv_tab.proofs.Makings.{ends}
use Rattle.mdv_tab.proofs.making.order_of.Goals as goal

pub returns : goal.returns
returns c =
    ends (NeedsIn c.args.graph.now) (count_of c.args.graph.now) c.loop-first.making.made.items c.loop-first.making.order.items c.loop-first.first (omega (arith, c.len-count.ensures, c.loop-first-test.false, c.args.graph.now.places.ok.0)) c.loop-first.invariant.0.order c.loop-first.invariant.2
