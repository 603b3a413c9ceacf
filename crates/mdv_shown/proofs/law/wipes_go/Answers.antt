use Rattle.mdv_shown.proofs.Formatting.{law_blank}
use Rattle.mdv_shown.proofs.Wiped.{law_wipes}
use Rattle.mdv_shown.proofs.law.wipes_go.Goals as goal

pub returns : goal.returns
returns g c = record { wiped = law_wipes _; blank = law_blank _ }
