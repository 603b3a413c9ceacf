use Rattle.std.proofs.Common.{arith}
use Rattle.mdv_whole.proofs.Ahead.{ahead_start, ahead_step, ahead_end, pairs_next, pairs_end}
use Rattle.mdv_whole.proofs.beside.lay_pairs.Goals as goal

pub loop-i-init : goal.loop-i-init
loop-i-init g c = ahead_start _ c.args.used c.args.out.now (omega arith)

pub loop-i-preserved : goal.loop-i-preserved
loop-i-preserved g c =
    ahead_step _ _ c.loop-i.invariant (pairs_next g.T.Beside.text c.args.items.now c.args.noted.now c.loop-i.i c.index-items-i.result c.index-noted-i.result c.index-items-i.is c.index-noted-i.is (omega arith) (omega arith)) c.lay_with-used.ensures

pub returns : goal.returns
returns g c = ahead_end c.loop-i.invariant (pairs_end g.T.Beside.text c.args.items.now c.args.noted.now c.loop-i.i (omega arith))
