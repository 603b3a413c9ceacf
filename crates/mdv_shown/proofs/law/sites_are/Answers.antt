use Rattle.mdv_shown.proofs.Sites.{law_sites}
use Rattle.mdv_shown.proofs.law.sites_are.Goals as goal

pub returns : goal.returns
returns c = law_sites
