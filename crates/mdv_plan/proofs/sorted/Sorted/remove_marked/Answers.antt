use Rattle.std.proofs.Common.{◌≡◌, not, false, get_or, rules, sym, ◌∙◌, ap, subst}
use Rattle.std.proofs.lemmas.Fn.{filter_same}
use Rattle.mdv_plan.specs.Sorted.{IsSorted, unmarked}
use Rattle.mdv_plan.proofs.Ascending.{unmarked_sorted}
use Rattle.mdv_plan.proofs.sorted.Sorted.remove_marked.Goals as goal

pub invariant_of-self : goal.invariant_of-self
invariant_of-self g c =
    let key = g.T.Keyed.key in
    let marks = c.args.marks.now in
    let items = c.self.inside.items.items in
    let is : c.retain.new.self.items ≡ unmarked key marks items = filter_same _ (λ x. not (get_or marks (key x) false)) _ (λ x b f' k. search rules) _ _ c.retain.ensures.filtered in
    subst (IsSorted key g.row.LIMIT) (sym is) (unmarked_sorted key g.row.LIMIT marks items c.self.invariant)

pub returns : goal.returns
returns g c =
    let key = g.T.Keyed.key in
    let marks = c.args.marks.now in
    let items = c.self.inside.items.items in
    let is : c.retain.new.self.items ≡ unmarked key marks items = filter_same _ (λ x. not (get_or marks (key x) false)) _ (λ x b f' k. search rules) _ _ c.retain.ensures.filtered in
    is ∙ ap (unmarked key marks) c.self.view_is
