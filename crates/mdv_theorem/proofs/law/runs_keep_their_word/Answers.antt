use Rattle.mdv_theorem.proofs.Agreeing.{reads_agree}
use Rattle.mdv_theorem.proofs.Ending.{runs_end}
use Rattle.mdv_theorem.proofs.Lasting.{writes_last}
use Rattle.mdv_theorem.proofs.Reading.{transfers_are_told}
use Rattle.mdv_theorem.proofs.Enduring.{volumes_stay}
use Rattle.mdv_theorem.proofs.law.runs_keep_their_word.Goals as goal

pub returns-clause-ends : goal.returns-clause-ends
returns-clause-ends c = runs_end

pub returns-clause-there : goal.returns-clause-there
returns-clause-there c = volumes_stay

pub returns-clause-told : goal.returns-clause-told
returns-clause-told c = transfers_are_told

pub returns-clause-last : goal.returns-clause-last
returns-clause-last c = writes_last

pub returns-clause-agree : goal.returns-clause-agree
returns-clause-agree c = reads_agree
