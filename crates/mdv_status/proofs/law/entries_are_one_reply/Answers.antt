use Rattle.mdv_status.proofs.Replies.{entries_are_one_reply}
use Rattle.mdv_status.proofs.law.entries_are_one_reply.Goals as goal

pub returns : goal.returns
returns c = entries_are_one_reply
