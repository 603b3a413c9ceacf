use Rattle.mdv_quorum.proofs.Stands.{stands_always as always}
use Rattle.mdv_quorum.proofs.theorem.stands_always.Goals as goal

pub returns : goal.returns
returns c = λ set events. always set events
