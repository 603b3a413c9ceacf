use Rattle.mdv_quorum.proofs.Limits.{change_fits}
use Rattle.mdv_quorum.proofs.machine.Core.step.Goals as goal

pub list-requires-clause-changes : goal.list-requires-clause-changes
list-requires-clause-changes c = change_fits c.args.self.now c.args.event c.in-Lists.lists c.in-Lists.is c.requires.room
