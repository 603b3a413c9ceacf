use Rattle.mdv_shown.proofs.Kept.{law_last, law_stay}
use Rattle.mdv_shown.proofs.Made.{law_formats_stay}
use Rattle.mdv_shown.proofs.law.founds_stay.Goals as goal

pub returns : goal.returns
returns g c = record { written = law_stay _; kept = law_last _; formatted = law_formats_stay _ }
