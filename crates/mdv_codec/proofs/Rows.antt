-- Rows and columns behind their number of components.
use Rattle.std.proofs.Common.{◌≡◌, ◌≤◌, ℕ, refl, length, arith}
use Rattle.mdv_codec.specs.Recorded.{RowFits, RowBodyFits, ColumnsFit, ColumnsBodyFits}
use Rattle.mdv_codec.specs.declared.recorded.RecordedColumns.{RecordedColumns}
use Rattle.mdv_codec.specs.declared.recorded.RecordedRow.{RecordedRow}

abbrev pub width : RecordedRow → ℕ
width r = length r.parts

pub to_row : (n : ℕ) (r : RecordedRow) → 1 ≤ n → n ≤ 100 → RowBodyFits n r → RowFits r × (width r ≡ n)
to_row n r some few is = (record { interlace = is.0; some = omega (arith, is.1.size); few = omega (arith, is.1.size); each = is.1.each }, is.1.size)

pub from_row : (r : RecordedRow) → RowFits r → (1 ≤ width r) × (width r ≤ 100) × RowBodyFits (width r) r
from_row r is = (omega (arith, is.some), is.few, (is.interlace, record { size = refl; each = is.each }))

abbrev pub count : RecordedColumns → ℕ
count c = length c.parts

pub to_columns : (n : ℕ) (c : RecordedColumns) → 3 ≤ n → n ≤ 32 → ColumnsBodyFits n c → ColumnsFit c × (count c ≡ n)
to_columns n c some few is = (record { units = is.0; some = omega (arith, is.1.size); few = omega (arith, is.1.size); each = is.1.each }, is.1.size)

pub from_columns : (c : RecordedColumns) → ColumnsFit c → (3 ≤ count c) × (count c ≤ 32) × ColumnsBodyFits (count c) c
from_columns c is = (is.some, is.few, (is.units, record { size = refl; each = is.each }))
