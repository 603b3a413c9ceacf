use Rattle.std.proofs.lemmas.Result.{err_from_is_err_and}
use Rattle.mdv_codec.proofs.Records.{rising_is, rising_not, rising_none}
use Rattle.mdv_codec.proofs.record.read_rising.Goals as goal

pub returns-in_err-items : goal.returns-in_err-items
returns-in_err-items g c =
    let told = err_from_is_err_and c.from_residual.result c.from_residual.ensures.1 in
    rw (told.1, told.2) (rising_none g.T.Part.text c.in_err-items.ensures)

pub returns-then-ascend : goal.returns-then-ascend
returns-then-ascend g c = rising_is g.T.Part.text c.in_ok-items.ensures (rw c.as_slice.ensures.value at (c.ascend.ensures.0 c.if-ascend.true))

pub returns-else-ascend : goal.returns-else-ascend
returns-else-ascend g c = rising_not g.T.Part.text c.in_ok-items.ensures (λ up. cc (c.ascend.ensures.1 (rw c.as_slice.ensures.value up), c.if-ascend.false))
