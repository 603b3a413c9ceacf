use Rattle.std.proofs.Common.{subst}
use Rattle.mdv_plan.specs.Sorted.{IsSorted}
use Rattle.mdv_plan.proofs.Ascending.{few}
use Rattle.mdv_plan.proofs.sorted.Sorted.as_slice.Goals as goal

pub returns-clause-few : goal.returns-clause-few
returns-clause-few g c = few g.T.Keyed.key g.row.LIMIT c.args.self.now (subst (IsSorted g.T.Keyed.key g.row.LIMIT) c.self.view_is c.self.invariant)
