use Rattle.std.proofs.Common.{drop}
use Rattle.std.specs.Prelude.{flat_map}
use Rattle.mdv_codec.specs.Recorded.{row_text}
use Rattle.mdv_whole.specs.Sides.{rows_of}
use Rattle.mdv_whole.proofs.Ahead.{IsAhead}
use Rattle.mdv_whole.proofs.rows.lay_rows.Given as goal

abbrev pub invariant-loop-row : goal.invariant-loop-row
invariant-loop-row l = IsAhead (flat_map row_text (rows_of l.rows l.states)) l.fn.used l.fn.out l.out l.used (flat_map row_text (rows_of (drop l.row-index l.rows) l.rest))
