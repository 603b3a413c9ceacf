use Rattle.mdv_shown.specs.Laws.{Reads}
use Rattle.mdv_standing.proofs.Lawful.{new_drives_stand}
use Rattle.mdv_standing.proofs.law.new_drives_stand.Goals as goal

pub returns : goal.returns
returns c = λ read. new_drives_stand (Reads read)
