use Rattle.mdv_votes.proofs.Quorums.{lists_are_shared, writes_meet_reads, claims_meet_reads, reads_have_one}
use Rattle.mdv_votes.proofs.law.quorums_meet.Goals as goal

pub returns : goal.returns
returns c = record { shared = lists_are_shared; written = writes_meet_reads; claimed = claims_meet_reads; some = reads_have_one }
