use Rattle.mdv_home.proofs.Siting.{sites_are_own}
use Rattle.mdv_home.proofs.law.sites_are_own.Goals as goal

pub returns : goal.returns
returns c = sites_are_own
