use Rattle.std.proofs.Common.{rules, ◌≡◌, sym, subst, List, ℕ, Contains}
use Rattle.mdv_name.specs.Lines.{lines}
use Rattle.mdv_files.proofs.Rest.{behind_first}
use Rattle.mdv_files.proofs.lines.has_line.Goals as goal

pub loop-line-preserved : goal.loop-line-preserved
loop-line-preserved c =
    let other : c.split_line.result.0.now ≡ c.args.line.now → ⊥ = search rules in
    let step = behind_first c.split_line.result.0.now c.args.line.now (lines c.split_line.result.1.now) other in (
      λ has. step.0 (subst (λ (l : List (List ℕ)). Contains l c.args.line.now) c.split_line.ensures.lines (c.loop-line.invariant.0 has)),
      λ has. c.loop-line.invariant.1 (subst (λ (l : List (List ℕ)). Contains l c.args.line.now) (sym c.split_line.ensures.lines) (step.1 has)),
    )
