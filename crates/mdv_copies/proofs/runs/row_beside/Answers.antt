use Rattle.std.proofs.Common.{◌≡◌, ◌-◌, ◌%◌, ℕ, min, not, sym, ◌∙◌, ap, subst, arith}
use Rattle.std.specs.List.{slice_get}
use Rattle.mdv_copies.specs.Copies.{is_on}
use Rattle.mdv_copies.proofs.Stretches.{beside_row, unit_run}
use Rattle.mdv_copies.proofs.runs.row_beside.Goals as goal

pub returns-then-not-has_part_on-clause-run : goal.returns-then-not-has_part_on-clause-run
returns-then-not-has_part_on-clause-run c =
    beside_row c.args.row.now c.args.on c.args.block (c.row_blocks.result - c.args.block) (sym c.has_part_on.ensures ∙ c.if-not-has_part_on.true) (omega (arith, c.requires, c.row_blocks.ensures.value))

pub returns-clause-run : goal.returns-clause-run
returns-clause-run c =
    let b = c.args.block in
    let m = c.row_blocks.result in
    let is = subst (λ (u : ℕ). c.min.result ≡ min (m - b) (u - b % u)) c.unit_blocks-unit.ensures c.min.ensures in
    unit_run c.args.row.now (λ p. not (is_on c.args.on (slice_get c.args.row.now.components p))) b c.min.result m (ap not (sym c.lies_in_row.ensures ∙ c.if-lies_in_row.false)) (omega (arith, c.requires, c.row_blocks.ensures.value)) is
