use Rattle.mdv_votes.proofs.Growing.{writes_grow, claims_grow, reads_grow}
use Rattle.mdv_votes.proofs.law.quorums_grow.Goals as goal

pub returns : goal.returns
returns c = record { written = writes_grow; claimed = claims_grow; read = reads_grow }
