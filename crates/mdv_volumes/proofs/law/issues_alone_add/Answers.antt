use Rattle.mdv_volumes.proofs.Logs.{issues_alone_add}
use Rattle.mdv_volumes.proofs.law.issues_alone_add.Goals as goal

pub returns : goal.returns
returns c = issues_alone_add
