use Rattle.std.proofs.Common.{refl, arith}
use Rattle.mdv_fields.proofs.Rising.{rises_none, rises_more, rises_all, falls}
use Rattle.mdv_fields.proofs.order.ascend.Goals as goal

pub loop-i-init : goal.loop-i-init
loop-i-init g c = rises_none g.T.Ordered.below c.args.items.now

pub returns-then-not-is_below : goal.returns-then-not-is_below
returns-then-not-is_below g c = (
  λ no. cc (no),
  λ all. absurd (falls g.T.Ordered.below c.args.items.now c.loop-i.i c.index-items-i.result c.index-items-i-in-loop-i.result c.index-items-i.is c.index-items-i-in-loop-i.is (omega arith) c.loop-i-test.true (λ is. cc (c.is_below.ensures.1 is, c.if-not-is_below.true)) all),
)

pub loop-i-preserved : goal.loop-i-preserved
loop-i-preserved g c =
    rises_more g.T.Ordered.below c.args.items.now c.loop-i.i c.index-items-i.result c.index-items-i-in-loop-i.result c.index-items-i.is c.index-items-i-in-loop-i.is (omega arith) c.loop-i-test.true (c.is_below.ensures.0 c.if-not-is_below.false) c.loop-i.invariant

pub returns : goal.returns
returns g c = (λ yes. rises_all g.T.Ordered.below c.args.items.now g.met.T.Ordered.follows c.loop-i.i c.loop-i-test.false c.loop-i.invariant, λ all. refl)
