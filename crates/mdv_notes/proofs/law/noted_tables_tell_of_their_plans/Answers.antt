use Rattle.mdv_notes.proofs.Planning.{tells_of_plan}
use Rattle.mdv_notes.proofs.law.noted_tables_tell_of_their_plans.Goals as goal

pub returns : goal.returns
returns c t is = tells_of_plan t is
