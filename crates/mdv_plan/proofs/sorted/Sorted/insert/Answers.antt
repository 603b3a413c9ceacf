use Rattle.std.proofs.Common.{subst, sym, ◌∙◌, ap}
use Rattle.mdv_plan.specs.Sorted.{IsSorted, IsGapFor, with_item}
use Rattle.mdv_plan.proofs.Ascending.{never_at, with_item-insert, with_sorted}
use Rattle.mdv_plan.proofs.sorted.Sorted.insert.Goals as goal

pub unreachable-requires : goal.unreachable-requires
unreachable-requires g c =
    let key = g.T.Keyed.key in
    never_at key c.args.self.now (key c.args.item) c.in-Ok.field-0 c.args.item (rw (← c.key.ensures) c.in-Ok.ensures.found) c.requires.fresh

pub invariant_of-self-in-Err : goal.invariant_of-self-in-Err
invariant_of-self-in-Err g c =
    let key = g.T.Keyed.key in
    let item = c.args.item in
    let items = c.self.inside.items.items in
    let gap : IsGapFor key items (key item) c.in-Err.place = rw (c.self.view_is, ← c.key.ensures) c.in-Err.ensures.absent in
    let placed = with_sorted key g.row.LIMIT item items c.self.invariant c.requires.key (rw c.self.view_is c.requires.fresh) in
    subst (IsSorted key g.row.LIMIT) (sym (c.in_ok-insert-in-Err.ensures.items ∙ with_item-insert key item items c.in-Err.place gap)) placed

pub returns-clause-ok : goal.returns-clause-ok
returns-clause-ok g c =
    let key = g.T.Keyed.key in
    let item = c.args.item in
    let items = c.self.inside.items.items in
    let gap : IsGapFor key items (key item) c.in-Err.place = rw (c.self.view_is, ← c.key.ensures) c.in-Err.ensures.absent in
    c.in_ok-insert-in-Err.ensures.items ∙ with_item-insert key item items c.in-Err.place gap ∙ ap (with_item key item) c.self.view_is
