use Rattle.mdv_quorum.proofs.Events.{joins, one_more}
use Rattle.mdv_quorum.proofs.theorem.events_join.Goals as goal

pub returns : goal.returns
returns c = record { lists = joins; one = one_more }
