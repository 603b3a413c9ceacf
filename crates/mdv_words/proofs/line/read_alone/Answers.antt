use Rattle.std.proofs.Common.{sym}
use Rattle.std.proofs.lemmas.Result.{err_from_is_err_and}
use Rattle.mdv_words.proofs.Lines.{not_asked, not_built}
use Rattle.mdv_words.proofs.line.read_alone.Goals as goal

pub returns-in_err-read_line-clause-fault : goal.returns-in_err-read_line-clause-fault
returns-in_err-read_line-clause-fault c =
    let told = err_from_is_err_and c.from_residual.result c.from_residual.ensures.1 in
    rw (told.1, told.2) (not_asked _ _ c.requires c.in_err-read_line.ensures.fault)

pub returns-in-None-clause-fault : goal.returns-in-None-clause-fault
returns-in-None-clause-fault c = not_built _ _ c.requires (rw c.in-Command.is at c.in_ok-read_line.ensures.value) (sym c.in-None.ensures)
