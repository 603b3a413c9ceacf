use Rattle.mdv_shown.proofs.Worlds.{law_slots}
use Rattle.mdv_shown.proofs.law.slots_go.Goals as goal

pub returns : goal.returns
returns g c = law_slots _
