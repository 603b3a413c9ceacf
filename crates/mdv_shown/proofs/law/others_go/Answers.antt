use Rattle.mdv_shown.proofs.Formatting.{law_others_formats}
use Rattle.mdv_shown.proofs.Others.{law_others}
use Rattle.mdv_shown.proofs.law.others_go.Goals as goal

pub returns : goal.returns
returns g c = record { written = law_others _; formatted = law_others_formats _ }
