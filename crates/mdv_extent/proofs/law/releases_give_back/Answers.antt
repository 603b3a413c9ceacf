use Rattle.mdv_extent.proofs.Releasing.{given_back}
use Rattle.mdv_extent.proofs.law.releases_give_back.Goals as goal

pub returns : goal.returns
returns c = given_back
