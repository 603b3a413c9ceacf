use Rattle.mdv_votes.proofs.Meeting.{meet}
use Rattle.mdv_votes.proofs.law.halves_meet.Goals as goal

pub returns : goal.returns
returns c = meet
