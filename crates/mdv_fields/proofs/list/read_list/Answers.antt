use Rattle.std.proofs.Common.{arith}
use Rattle.std.proofs.lemmas.Result.{err_from_is_err_and}
use Rattle.mdv_fields.proofs.Lists.{so_far_none, so_far_more, never_more, all_read}
use Rattle.mdv_fields.proofs.list.read_list.Goals as goal

pub loop-init : goal.loop-init
loop-init g c = rw c.in_ok-items.ensures (so_far_none c.args.rest.now c.args.count)

pub returns-in_err-read : goal.returns-in_err-read
returns-in_err-read g c =
    let told = err_from_is_err_and c.from_residual-in_err-read.result c.from_residual-in_err-read.ensures.1 in
    rw (told.1, told.2) (record { read = tt; spelled = never_more c.loop.invariant c.loop-test.true c.in_err-read.ensures })

pub loop-preserved : goal.loop-preserved
loop-preserved g c = rw c.in_ok-push.ensures.ok (so_far_more c.loop.invariant c.loop-test.true c.in_ok-read.ensures)

pub returns : goal.returns
returns g c = all_read c.loop.invariant c.loop-test.false (omega arith)
