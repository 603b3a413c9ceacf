use Rattle.mdv_theorem.proofs.Moments.{runs_go_on, runs_live_on}
use Rattle.mdv_theorem.proofs.law.runs_live_on.Goals as goal

pub returns-clause-lives : goal.returns-clause-lives
returns-clause-lives c = runs_live_on

pub returns-clause-goes : goal.returns-clause-goes
returns-clause-goes c = runs_go_on
