use Rattle.mdv_status.proofs.Apart.{values_are_told}
use Rattle.mdv_status.proofs.law.values_are_told.Goals as goal

pub returns : goal.returns
returns c = values_are_told
