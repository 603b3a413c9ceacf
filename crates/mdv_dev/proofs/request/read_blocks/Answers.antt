use Rattle.std.proofs.Common.{length}
use Rattle.mdv_dev.proofs.Failing.{handed_on}
use Rattle.mdv_dev.proofs.Requesting.{reads_stop, reads_took}
use Rattle.mdv_dev.proofs.request.read_blocks.Goals as goal

pub returns-in_err-finish-clause-counted : goal.returns-in_err-finish-clause-counted
returns-in_err-finish-clause-counted g c =
    rw (handed_on c.from_residual.result c.in_err-finish.field-0.0 c.from_residual.ensures.1)
    (reads_stop g.S.Shelf (g.D.Placed.map c.args.device.now) c.args.at (length c.args.out.now) c.args.shelf.now c.finish.new.shelf c.finish.new.work c.args.out.now c.finish.new.buffer c.in_err-finish.field-0.0 c.in_err-finish.ensures.finished c.in_err-finish.ensures.counted)

pub returns-clause-counted : goal.returns-clause-counted
returns-clause-counted g c =
    reads_took g.S.Shelf (g.D.Placed.map c.args.device.now) c.args.at (length c.args.out.now) c.args.shelf.now c.finish.new.shelf c.finish.new.work c.args.out.now c.finish.new.buffer _ c.in_ok-finish.ensures.finished c.in_ok-finish.ensures.counted
