use Rattle.mdv_shown.proofs.Slots.{law_one, law_newest, law_kept, law_filled, law_some}
use Rattle.mdv_shown.proofs.law.slots_show.Goals as goal

pub returns : goal.returns
returns g c = record { one = law_one _; newest = law_newest _; kept = law_kept _; filled = law_filled _; some = law_some _ }
