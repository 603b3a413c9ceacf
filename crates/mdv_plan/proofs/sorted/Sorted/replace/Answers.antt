use Rattle.std.proofs.Common.{◌∙◌, ap}
use Rattle.mdv_plan.specs.Sorted.{IsAt, IsGapFor, changed}
use Rattle.mdv_plan.proofs.Ascending.{set_at, changed_at}
use Rattle.mdv_plan.proofs.sorted.Sorted.replace.Goals as goal

pub returns-in-Ok : goal.returns-in-Ok
returns-in-Ok g c =
    let key = g.T.Keyed.key in
    let item = c.args.item in
    let items = c.self.inside.items.items in
    let at : IsAt key items (key item) c.in-Ok.place = rw (c.self.view_is, ← c.key.ensures) c.in-Ok.ensures.found in
    set_at key item items c.in-Ok.place c.self.invariant.ascending at ∙ ap (changed key item) c.self.view_is

pub returns-in_default : goal.returns-in_default
returns-in_default g c =
    let key = g.T.Keyed.key in
    let item = c.args.item in
    let gap : IsGapFor key c.args.self.now (key item) c.in_default.field-0 = rw (← c.key.ensures) c.in_default.ensures.absent in
    changed_at key item c.args.self.now c.in_default.field-0 gap
