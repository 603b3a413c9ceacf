use Rattle.mdv_extent.proofs.Taking.{taken_from_free}
use Rattle.mdv_extent.proofs.law.used_runs_stay.Goals as goal

pub returns : goal.returns
returns c = taken_from_free
