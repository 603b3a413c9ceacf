use Rattle.mdv_survey.proofs.Exactness.{counts_are_one}
use Rattle.mdv_survey.proofs.law.counts_are_one.Goals as goal

pub returns : goal.returns
returns c = counts_are_one
