use Rattle.mdv_shown.specs.Laws.{Reads}
use Rattle.mdv_standing.proofs.Lawful.{covers_beside}
use Rattle.mdv_standing.proofs.law.frames.Goals as goal

pub returns : goal.returns
returns c = λ read. covers_beside (Reads read)
