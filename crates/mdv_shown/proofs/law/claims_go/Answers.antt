use Rattle.mdv_shown.proofs.Worlds.{law_claims}
use Rattle.mdv_shown.proofs.law.claims_go.Goals as goal

pub returns : goal.returns
returns g c = law_claims _
