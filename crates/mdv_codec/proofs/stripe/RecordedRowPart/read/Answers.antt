use Rattle.std.proofs.Common.{lit<, arith}
use Rattle.std.proofs.lemmas.Result.{err_from_is_err_and}
use Rattle.mdv_codec.specs.Recorded.{row_text, row_body}
use Rattle.mdv_fields.proofs.Fields.{between, no_size, not_between}
use Rattle.mdv_codec.proofs.Rows.{width, to_row, from_row}
use Rattle.mdv_codec.proofs.stripe.RecordedRowPart.read.Goals as goal

pub returns-in_err-read : goal.returns-in_err-read
unfolding row_text
returns-in_err-read c =
    let told = err_from_is_err_and c.from_residual.result c.from_residual.ensures.1 in
    rw (told.1, told.2) (no_size width row_body 1 100 (lit< tt) to_row from_row c.in_err-read.ensures)

pub returns-then-width-eq0 : goal.returns-then-width-eq0
unfolding row_text
returns-then-width-eq0 c = not_between width row_body 1 100 (lit< tt) to_row from_row c.in_ok-read.ensures (λ some few. omega (arith, c.from-width.ensures, c.if-width-eq0.true))

pub returns-then-width-gt-MAX_COMPONENTS : goal.returns-then-width-gt-MAX_COMPONENTS
unfolding row_text
returns-then-width-gt-MAX_COMPONENTS c = not_between width row_body 1 100 (lit< tt) to_row from_row c.in_ok-read.ensures (λ some few. omega (arith, c.from-width.ensures, c.if-width-gt-MAX_COMPONENTS.true))

pub returns : goal.returns
unfolding row_text
returns c = between width row_body 1 100 (lit< tt) to_row from_row c.read_row.result c.in_ok-read.ensures (omega (arith, c.from-width.ensures)) (omega (arith, c.from-width.ensures)) (rw c.from-width.ensures at c.read_row.ensures)
