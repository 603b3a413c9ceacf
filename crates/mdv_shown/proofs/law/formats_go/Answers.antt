use Rattle.mdv_shown.proofs.Formatting.{law_first_formats, law_later_formats}
use Rattle.mdv_shown.proofs.law.formats_go.Goals as goal

pub returns : goal.returns
returns g c = record { first = law_first_formats _; later = law_later_formats _ }
