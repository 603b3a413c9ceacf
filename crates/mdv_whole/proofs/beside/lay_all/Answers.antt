use Rattle.std.proofs.Common.{arith}
use Rattle.mdv_fields.proofs.Placing.{laid_none, laid_more, laid_all}
use Rattle.mdv_whole.proofs.beside.lay_all.Goals as goal

pub loop-item-init : goal.loop-item-init
loop-item-init g c = laid_none c.args.used c.args.out.now (omega arith)

pub loop-item-preserved : goal.loop-item-preserved
loop-item-preserved g c = laid_more (λ x. g.T.Beside.text x c.args.noted.now) c.args.items.now c.loop-item.item-index _ c.item-item.is c.loop-item-test.true c.loop-item.invariant c.lay_with-used.ensures

pub returns : goal.returns
returns g c = laid_all (λ x. g.T.Beside.text x c.args.noted.now) c.args.items.now c.loop-item.item-index (omega arith) c.loop-item.invariant
