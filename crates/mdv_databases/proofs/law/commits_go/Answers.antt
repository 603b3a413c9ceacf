use Rattle.mdv_databases.proofs.Committing.{commit_end, commit_moment}
use Rattle.mdv_databases.proofs.law.commits_go.Goals as goal

pub returns : goal.returns
returns c = record { moments = commit_moment; ends = commit_end }
