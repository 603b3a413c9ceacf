use Rattle.mdv_config.proofs.Marks.{unmarked}
use Rattle.mdv_config.proofs.uses.Uses.new.Goals as goal

pub returns : goal.returns
returns c = unmarked 2048
