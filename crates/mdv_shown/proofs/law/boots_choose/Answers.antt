use Rattle.mdv_shown.proofs.Choice.{law_choice}
use Rattle.mdv_shown.proofs.law.boots_choose.Goals as goal

pub returns : goal.returns
returns g c = law_choice _
