use Rattle.std.proofs.Common.{◌∙◌, ap, sym, subst, set, List, get_or}
use Rattle.mdv_plan.specs.Sorted.{IsAscending, IsAt, IsGapFor, changed}
use Rattle.mdv_plan.proofs.Ascending.{changed_at, find_at, none_at, set_at}
use Rattle.mdv_plan.proofs.sorted.Sorted.exchange.Goals as goal

pub returns-in-Ok-clause-value : goal.returns-in-Ok-clause-value
returns-in-Ok-clause-value g c =
    let key = g.T.Keyed.key in
    let rising = subst (IsAscending key) c.self.view_is c.self.invariant.ascending in
    let at : IsAt key c.args.self.now (key c.args.item) c.in-Ok.place = rw (← c.key.ensures) c.in-Ok.ensures.found in
    let place = c.in-Ok.place in
    let was = c.replace.ensures.value in
    let stood = was ∙ c.index_mut.ensures.value ∙ ap (λ (xs : List g.row.T.Denot). get_or xs place c.index_mut.result.now) c.self.view_is ∙ ap (λ (x : g.row.T.Denot). get_or c.args.self.now place x) (sym was) in
    sym (find_at key c.args.self.now (key c.args.item) place c.replace.result rising at stood)

pub returns-in-Ok-clause-list : goal.returns-in-Ok-clause-list
returns-in-Ok-clause-list g c =
    let key = g.T.Keyed.key in
    let items = c.self.inside.items.items in
    let item = c.args.item in
    let at : IsAt key items (key item) c.in-Ok.place = rw (c.self.view_is, ← c.key.ensures) c.in-Ok.ensures.found in
    ap (λ (x : g.row.T.Denot). set items c.in-Ok.place x) c.replace.ensures.after ∙ set_at key item items c.in-Ok.place c.self.invariant.ascending at ∙ ap (changed key item) c.self.view_is

pub returns-in-Err-clause-value : goal.returns-in-Err-clause-value
returns-in-Err-clause-value g c =
    let key = g.T.Keyed.key in
    let gap : IsGapFor key c.args.self.now (key c.args.item) c.in-Err.field-0 = rw (← c.key.ensures) c.in-Err.ensures.absent in
    sym (none_at key c.args.self.now (key c.args.item) c.in-Err.field-0 gap)

pub returns-in-Err-clause-list : goal.returns-in-Err-clause-list
returns-in-Err-clause-list g c =
    let key = g.T.Keyed.key in
    let gap : IsGapFor key c.args.self.now (key c.args.item) c.in-Err.field-0 = rw (← c.key.ensures) c.in-Err.ensures.absent in
    changed_at key c.args.item c.args.self.now c.in-Err.field-0 gap
