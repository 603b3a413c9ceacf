use Rattle.mdv_soft.proofs.Extents.{pieces_end}
use Rattle.mdv_soft.proofs.law.pieces_end.Goals as goal

pub returns : goal.returns
returns c = pieces_end
