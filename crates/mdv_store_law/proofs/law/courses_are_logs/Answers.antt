use Rattle.mdv_store_law.proofs.Logs.{courses_are_logs}
use Rattle.mdv_store_law.proofs.law.courses_are_logs.Goals as goal

pub returns : goal.returns
returns c = courses_are_logs
