use Rattle.mdv_shown.specs.Laws.{Reads}
use Rattle.mdv_standing.proofs.Lawful.{crashes_stand}
use Rattle.mdv_standing.proofs.law.crashes_stand.Goals as goal

pub returns : goal.returns
returns c = λ read. crashes_stand (Reads read)
