use Rattle.mdv_map.proofs.Standing.{requests_stand}
use Rattle.mdv_map.proofs.law.requests_stand.Goals as goal

pub returns : goal.returns
returns c = requests_stand
