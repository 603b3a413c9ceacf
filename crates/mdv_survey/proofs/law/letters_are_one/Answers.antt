use Rattle.mdv_survey.proofs.Alike.{letters_are_one}
use Rattle.mdv_survey.proofs.law.letters_are_one.Goals as goal

pub returns : goal.returns
returns c = letters_are_one
