use Rattle.std.proofs.Common.{sym, subst, rules}
use Rattle.std.proofs.lemmas.List.Sorted.{answers_always}
use Rattle.mdv_plan.specs.Sorted.{IsAscending}
use Rattle.mdv_plan.proofs.Ascending.{searched}
use Rattle.mdv_plan.proofs.sorted.Sorted.search.Goals as goal

pub returns : goal.returns
returns g c =
    let facts = c.binary_search_by_key.ensures in
    let by_key = facts.position g.T.Keyed.key (answers_always _ _ _ (λ f a r g called. search rules)) in
    let rising = subst (IsAscending g.T.Keyed.key) (sym c.deref.ensures.value) c.self.invariant.ascending in
    let parts = searched g.T.Keyed.key c.deref.result.now c.args.key c.binary_search_by_key.result rising facts.bound by_key in
    rw (← c.self.view_is, ← c.deref.ensures.value) (record { found = parts.0; absent = parts.1 })
