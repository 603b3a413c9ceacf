use Rattle.std.proofs.Common.{◌<◌, arith}
use Rattle.mdv_tab.proofs.Makings.{each_more}
use Rattle.mdv_tab.proofs.making.all_places.Goals as goal

pub loop-place-preserved : goal.loop-place-preserved
loop-place-preserved c = each_more _ _ c.loop-place.place c.loop-place.invariant c.in_ok-push.ensures

pub returns : goal.returns
returns c = λ i. (
  λ has. let lt : i < c.loop-place.place = (c.loop-place.invariant i).0 has in omega arith,
  λ lt. (c.loop-place.invariant i).1 (omega arith),
)
