use Rattle.mdv_status.proofs.Replies.{prints_are_one_reply}
use Rattle.mdv_status.proofs.law.prints_are_one_reply.Goals as goal

pub returns : goal.returns
returns c = prints_are_one_reply
