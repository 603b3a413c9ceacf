use Rattle.mdv_map.proofs.Covering.{areas_cover}
use Rattle.mdv_map.proofs.law.areas_cover.Goals as goal

pub returns : goal.returns
returns c = areas_cover
