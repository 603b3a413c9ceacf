use Rattle.std.proofs.Common.{arith}
use Rattle.mdv_copies.proofs.Stretches.{beside_found}
use Rattle.mdv_copies.proofs.runs.beside_in.Goals as goal

pub returns-then-left-blocks : goal.returns-then-left-blocks
returns-then-left-blocks c =
    beside_found c.args.rows.now c.args.on c.args.block c.loop-rest.rest.now c.loop-rest.left c.row-item.result c.row_beside.result c.in-len1-up.len_at_least c.row-item.is c.loop-rest.invariant (omega (arith, c.if-left-blocks.true, c.row_blocks-blocks.ensures.value)) c.row_beside.ensures.run c.row_beside.ensures.within
