use Rattle.std.proofs.Common.{sym, subst}
use Rattle.mdv_plan.specs.Sorted.{IsAscending}
use Rattle.mdv_plan.proofs.Ascending.{find_at, none_at}
use Rattle.mdv_plan.proofs.sorted.Sorted.find.Goals as goal

pub returns-in-Ok : goal.returns-in-Ok
returns-in-Ok g c =
    let rising = subst (IsAscending g.T.Keyed.key) c.self.view_is c.self.invariant.ascending in
    sym (find_at g.T.Keyed.key c.args.self.now c.args.key c.in-Ok.place c.index.result.now rising c.in-Ok.ensures.found (rw (← c.self.view_is) c.index.ensures))

pub returns-in-Err : goal.returns-in-Err
returns-in-Err g c = sym (none_at g.T.Keyed.key c.args.self.now c.args.key c.in-Err.field-0 c.in-Err.ensures.absent)
