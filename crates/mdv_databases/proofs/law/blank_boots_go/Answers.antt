use Rattle.mdv_databases.proofs.Blank.{blank_boots_go}
use Rattle.mdv_databases.proofs.law.blank_boots_go.Goals as goal

pub returns : goal.returns
returns c = blank_boots_go
