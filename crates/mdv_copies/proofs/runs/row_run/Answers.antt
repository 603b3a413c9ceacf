use Rattle.std.proofs.Common.{◌≡◌, ◌-◌, ◌%◌, ℕ, min, sym, ◌∙◌, subst, arith}
use Rattle.std.specs.List.{slice_get}
use Rattle.mdv_copies.specs.Copies.{is_usable_part}
use Rattle.mdv_copies.proofs.Stretches.{unit_run}
use Rattle.mdv_copies.proofs.runs.row_run.Goals as goal

pub returns-clause-run : goal.returns-clause-run
returns-clause-run c =
    let b = c.args.block in
    let m = c.row_blocks.result in
    let is = subst (λ (u : ℕ). c.min.result ≡ min (m - b) (u - b % u)) c.unit_blocks-unit.ensures c.min.ensures in
    unit_run c.args.row.now (λ p. is_usable_part (slice_get c.args.parts.now p)) b c.min.result m (sym c.is_usable_in_row.ensures ∙ c.if-not-is_usable_in_row.false) (omega (arith, c.requires, c.row_blocks.ensures.value)) is
