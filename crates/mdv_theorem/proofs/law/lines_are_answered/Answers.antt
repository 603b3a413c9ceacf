use Rattle.mdv_theorem.proofs.Answered.{runs_answer}
use Rattle.mdv_theorem.proofs.law.lines_are_answered.Goals as goal

pub returns : goal.returns
returns c = runs_answer
