use Rattle.std.proofs.Common.{subst, sym, ◌∙◌, ap}
use Rattle.mdv_plan.specs.Sorted.{IsAt, IsSorted, without}
use Rattle.mdv_plan.proofs.Ascending.{remove_at, without_at, without_sorted}
use Rattle.mdv_plan.proofs.sorted.Sorted.remove.Goals as goal

pub invariant_of-self : goal.invariant_of-self
invariant_of-self g c =
    let key = g.T.Keyed.key in
    let items = c.self.inside.items.items in
    let at : IsAt key items c.args.key c.in-Ok.place = rw c.self.view_is c.in-Ok.ensures.found in
    let is = c.remove.ensures.items ∙ remove_at key items c.args.key c.in-Ok.place c.self.invariant.ascending at in
    subst (IsSorted key g.row.LIMIT) (sym is) (without_sorted key g.row.LIMIT c.args.key items c.self.invariant)

pub returns-in-Ok : goal.returns-in-Ok
returns-in-Ok g c =
    let key = g.T.Keyed.key in
    let items = c.self.inside.items.items in
    let at : IsAt key items c.args.key c.in-Ok.place = rw c.self.view_is c.in-Ok.ensures.found in
    c.remove.ensures.items ∙ remove_at key items c.args.key c.in-Ok.place c.self.invariant.ascending at ∙ ap (without key c.args.key) c.self.view_is

pub returns-in_default : goal.returns-in_default
returns-in_default g c =
    let key = g.T.Keyed.key in
    let gap = c.in_default.ensures.absent in
    without_at key c.args.self.now c.args.key c.in_default.field-0 gap
