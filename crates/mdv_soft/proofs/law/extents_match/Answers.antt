use Rattle.mdv_soft.proofs.Extents.{extents_match}
use Rattle.mdv_soft.proofs.law.extents_match.Goals as goal

pub returns : goal.returns
returns c = extents_match
