use Rattle.mdv_status.proofs.Replies.{values_are_one_reply}
use Rattle.mdv_status.proofs.law.values_are_one_reply.Goals as goal

pub returns : goal.returns
returns c = values_are_one_reply
