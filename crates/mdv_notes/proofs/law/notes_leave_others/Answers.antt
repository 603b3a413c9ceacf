use Rattle.mdv_notes.proofs.Leaving.{left_alone}
use Rattle.mdv_notes.proofs.law.notes_leave_others.Goals as goal

pub returns : goal.returns
returns c t n = left_alone t n
