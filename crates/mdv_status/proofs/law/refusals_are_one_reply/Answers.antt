use Rattle.mdv_status.proofs.Replies.{refusals_are_one_reply}
use Rattle.mdv_status.proofs.law.refusals_are_one_reply.Goals as goal

pub returns : goal.returns
returns c = refusals_are_one_reply
