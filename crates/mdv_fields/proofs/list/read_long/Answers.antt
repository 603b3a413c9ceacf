use Rattle.std.proofs.Common.{arith}
use Rattle.std.proofs.lemmas.Result.{err_from_is_err_and}
use Rattle.mdv_fields.proofs.Lists.{long_is, no_long, too_many_long}
use Rattle.mdv_fields.proofs.list.read_long.Goals as goal

pub returns-in_err-read : goal.returns-in_err-read
returns-in_err-read g c =
    let told = err_from_is_err_and c.from_residual.result c.from_residual.ensures.1 in
    rw (told.1, told.2) (no_long g.T.Part.text c.in_err-read.ensures)

pub returns-then-count : goal.returns-then-count
returns-then-count g c = too_many_long g.T.Part.text c.in_ok-read.ensures (omega arith)

pub returns : goal.returns
returns g c = long_is g.T.Part.text c.read_list.result c.in_ok-read.ensures (omega arith) (rw c.from-count.ensures at c.read_list.ensures)
