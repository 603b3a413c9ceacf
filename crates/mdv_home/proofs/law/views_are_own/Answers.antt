use Rattle.mdv_home.proofs.Viewing.{view_is_own}
use Rattle.mdv_home.proofs.law.views_are_own.Goals as goal

pub returns : goal.returns
returns c = view_is_own
