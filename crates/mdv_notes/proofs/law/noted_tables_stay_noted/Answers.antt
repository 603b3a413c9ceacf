use Rattle.mdv_notes.proofs.Staying.{stays_noted}
use Rattle.mdv_notes.proofs.law.noted_tables_stay_noted.Goals as goal

pub returns : goal.returns
returns c t n is = stays_noted t n is
