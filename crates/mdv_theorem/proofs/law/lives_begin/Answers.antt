use Rattle.mdv_theorem.proofs.Zeros.{lives_begin}
use Rattle.mdv_theorem.proofs.law.lives_begin.Goals as goal

pub returns : goal.returns
returns c = lives_begin
