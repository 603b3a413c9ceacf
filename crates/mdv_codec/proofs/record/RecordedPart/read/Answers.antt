use Rattle.std.proofs.lemmas.Result.{err_from_is_err_and}
use Rattle.mdv_codec.proofs.Records.{body_is, no_volumes}
use Rattle.mdv_codec.proofs.record.RecordedPart.read.Goals as goal

pub returns-in_err-volumes : goal.returns-in_err-volumes
returns-in_err-volumes c =
    let told = err_from_is_err_and c.from_residual-in_err-volumes.result c.from_residual-in_err-volumes.ensures.1 in
    rw (told.1, told.2) (no_volumes c.in_ok-front.ensures c.in_ok-pools.ensures c.in_err-volumes.ensures)

pub returns : goal.returns
returns c = body_is c.in_ok-front.ensures c.in_ok-pools.ensures c.in_ok-volumes.ensures
