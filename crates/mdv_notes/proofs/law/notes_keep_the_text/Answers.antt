use Rattle.mdv_notes.proofs.Records.{keeps_text}
use Rattle.mdv_notes.proofs.law.notes_keep_the_text.Goals as goal

pub returns : goal.returns
returns c t n = keeps_text t n
