use Rattle.mdv_notes.proofs.Saying.{said}
use Rattle.mdv_notes.proofs.law.notes_say_what_they_name.Goals as goal

pub returns : goal.returns
returns c t n = said t n
