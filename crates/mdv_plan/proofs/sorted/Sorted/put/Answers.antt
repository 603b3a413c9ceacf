use Rattle.std.proofs.Common.{◌∙◌, ap}
use Rattle.mdv_plan.specs.Sorted.{IsAt, IsGapFor, with_put}
use Rattle.mdv_plan.proofs.Ascending.{put_at, with_put-insert}
use Rattle.mdv_plan.proofs.sorted.Sorted.put.Goals as goal

pub returns-in-Ok-clause-ok : goal.returns-in-Ok-clause-ok
returns-in-Ok-clause-ok g c =
    let key = g.T.Keyed.key in
    let item = c.args.item in
    let items = c.self.inside.items.items in
    let at : IsAt key items (key item) c.in-Ok.place = rw (c.self.view_is, ← c.key.ensures) c.in-Ok.ensures.found in
    put_at key item items c.in-Ok.place c.self.invariant.ascending at ∙ ap (with_put key item) c.self.view_is

pub returns-in_ok-insert-in-Err-clause-ok : goal.returns-in_ok-insert-in-Err-clause-ok
returns-in_ok-insert-in-Err-clause-ok g c =
    let key = g.T.Keyed.key in
    let item = c.args.item in
    let items = c.self.inside.items.items in
    let gap : IsGapFor key items (key item) c.in-Err.place = rw (c.self.view_is, ← c.key.ensures) c.in-Err.ensures.absent in
    c.in_ok-insert-in-Err.ensures.items ∙ with_put-insert key item items c.in-Err.place gap ∙ ap (with_put key item) c.self.view_is
