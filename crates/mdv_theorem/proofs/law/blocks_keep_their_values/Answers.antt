use Rattle.mdv_theorem.proofs.Agreed.{runs_agree}
use Rattle.mdv_theorem.proofs.Beginning.{blocks_begin}
use Rattle.mdv_theorem.proofs.Given.{given}
use Rattle.mdv_theorem.proofs.law.blocks_keep_their_values.Goals as goal

pub returns-clause-begin : goal.returns-clause-begin
returns-clause-begin c = blocks_begin given

pub returns-clause-agree : goal.returns-clause-agree
returns-clause-agree c = runs_agree given
