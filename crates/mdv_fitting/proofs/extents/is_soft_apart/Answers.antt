use Rattle.std.proofs.Common.{◌≡◌, ℕ, List, IfOk, ◌∙◌, ap, subst}
use Rattle.std.specs.Prelude.{◌↔◌, IsTrue}
use Rattle.mdv_fitting.specs.Below.{LieApart, Run}
use Rattle.mdv_fitting.specs.Keys.{base_key}
use Rattle.mdv_fitting.specs.Runs.{items_at}
use Rattle.mdv_fitting.proofs.extents.is_soft_apart.Goals as goal

pub returns-clause-apart : goal.returns-clause-apart
returns-clause-apart c =
    let items : c.as_slice.result.now ≡ items_at c.args.runs.now (base_key c.args.soft.now.base) = c.as_slice.ensures.value ∙ c.take_runs-list.ensures.taken ∙ ap (items_at c.args.runs.now) c.base_key.ensures in
    subst (λ (n : ℕ). IfOk c.lie_apart.result (λ told. IsTrue told ↔ LieApart n (items_at c.args.runs.now (base_key c.args.soft.now.base)))) c.size_from-size.ensures
    (subst (λ (l : List Run). IfOk c.lie_apart.result (λ told. IsTrue told ↔ LieApart c.size_from-size.result l)) items c.lie_apart.ensures.apart)
