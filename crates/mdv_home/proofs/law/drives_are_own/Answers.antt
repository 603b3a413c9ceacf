use Rattle.mdv_home.proofs.Owning.{drives_are_own}
use Rattle.mdv_home.proofs.law.drives_are_own.Goals as goal

pub returns : goal.returns
returns c = drives_are_own
