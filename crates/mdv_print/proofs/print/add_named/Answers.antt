use Rattle.std.proofs.Common.{◌≡◌, ◌∙◌, ◌++◌, ◌==◌, ℕ, List, OnOk, ap, subst, sym}
use Rattle.std.specs.List.{find}
use Rattle.mdv_plan.specs.declared.pool.Pool.{Pool as OnePool}
use Rattle.mdv_print.specs.Text.{found_line, named_text, pool_line}
use Rattle.mdv_print.proofs.print.add_named.Goals as goal

pub returns-in-Some : goal.returns-in-Some
returns-in-Some c =
    let set = c.args.set.now in
    let pools = c.args.plan.now.pools in
    let same : pool_line set c.in-Some.pool.now ≡ named_text set c.args.plan.now c.args.name =
    ap (found_line set) (c.in-Some.ensures ∙ ap (λ (n : ℕ). find (λ (x : OnePool). x.number.0 == n) pools) c.from.ensures) ∙ sym (ap (named_text set c.args.plan.now) c.in-Pool.is)
    in
    subst (λ (l : List ℕ). OnOk c.add_pool.result (c.add_pool.new.text.items ≡ c.args.text.now.items ++ l)) same c.add_pool.ensures
