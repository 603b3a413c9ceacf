use Rattle.mdv_databases.proofs.Ending.{end_end, end_moment}
use Rattle.mdv_databases.proofs.law.ends_go.Goals as goal

pub returns : goal.returns
returns c = record { moments = λ g all o t m is. end_moment g all o t is m; ends = λ g all o t u is. end_end g all o t is u }
