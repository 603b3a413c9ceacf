use Rattle.mdv_quorum.proofs.Rising.{numbers_rise as rise}
use Rattle.mdv_quorum.proofs.theorem.numbers_rise.Goals as goal

pub returns : goal.returns
returns c = λ set events later. rise set events later
