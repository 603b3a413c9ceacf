use Rattle.mdv_quorum.proofs.Limits.{commit_fits}
use Rattle.mdv_quorum.proofs.machine.Core.list.Goals as goal

pub commit-requires-clause-count : goal.commit-requires-clause-count
commit-requires-clause-count c = commit_fits c.args.self.now c.args.lists c.in-Ready.next c.in-Ready.is c.requires.may
