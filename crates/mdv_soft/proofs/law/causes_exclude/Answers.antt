use Rattle.mdv_soft.proofs.Causes.{causes_exclude}
use Rattle.mdv_soft.proofs.law.causes_exclude.Goals as goal

pub returns : goal.returns
returns c = causes_exclude
