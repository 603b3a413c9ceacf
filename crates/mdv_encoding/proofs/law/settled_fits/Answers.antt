use Rattle.mdv_encoding.proofs.Settling.{settled_record}
use Rattle.mdv_encoding.proofs.law.settled_fits.Goals as goal

pub returns : goal.returns
returns c = settled_record
