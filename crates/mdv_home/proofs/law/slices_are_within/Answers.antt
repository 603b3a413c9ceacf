use Rattle.mdv_home.proofs.Places.{slices_within}
use Rattle.mdv_home.proofs.law.slices_are_within.Goals as goal

pub returns : goal.returns
returns c = slices_within
