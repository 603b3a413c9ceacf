use Rattle.std.proofs.Common.{lit<, arith}
use Rattle.std.proofs.lemmas.Result.{err_from_is_err_and}
use Rattle.mdv_codec.specs.Recorded.{columns_text, columns_body}
use Rattle.mdv_fields.proofs.Fields.{between, no_size, not_between}
use Rattle.mdv_codec.proofs.Rows.{count, to_columns, from_columns}
use Rattle.mdv_codec.proofs.volume.RecordedColumnsPart.read.Goals as goal

pub returns-in_err-read : goal.returns-in_err-read
unfolding columns_text
returns-in_err-read c =
    let told = err_from_is_err_and c.from_residual.result c.from_residual.ensures.1 in
    rw (told.1, told.2) (no_size count columns_body 3 32 (lit< tt) to_columns from_columns c.in_err-read.ensures)

pub returns-then-count-lt-MIN_COLUMNS : goal.returns-then-count-lt-MIN_COLUMNS
unfolding columns_text
returns-then-count-lt-MIN_COLUMNS c = not_between count columns_body 3 32 (lit< tt) to_columns from_columns c.in_ok-read.ensures (λ some few. omega (arith, c.from-count.ensures, c.if-count-lt-MIN_COLUMNS.true))

pub returns-then-count-gt-MAX_COLUMNS : goal.returns-then-count-gt-MAX_COLUMNS
unfolding columns_text
returns-then-count-gt-MAX_COLUMNS c = not_between count columns_body 3 32 (lit< tt) to_columns from_columns c.in_ok-read.ensures (λ some few. omega (arith, c.from-count.ensures, c.if-count-gt-MAX_COLUMNS.true))

pub returns : goal.returns
unfolding columns_text
returns c = between count columns_body 3 32 (lit< tt) to_columns from_columns c.read_columns.result c.in_ok-read.ensures (omega (arith, c.from-count.ensures)) (omega (arith, c.from-count.ensures)) (rw c.from-count.ensures at c.read_columns.ensures)
