use Rattle.std.proofs.Common.{◌≡◌, ◌+◌, ◌++◌, List, sym, ◌∙◌, ap, length, drop, arith}
use Rattle.std.specs.Prelude.{flat_map}
use Rattle.mdv_codec.specs.Recorded.{row_text}
use Rattle.mdv_whole.specs.Below.{Component, PartStatus}
use Rattle.mdv_whole.specs.Sides.{row_of, rows_of}
use Rattle.mdv_whole.proofs.Ahead.{ahead_start, ahead_step, ahead_end, rows_next, rows_end}
use Rattle.mdv_whole.proofs.rows.lay_rows.Goals as goal

pub loop-row-init : goal.loop-row-init
loop-row-init c = ahead_start _ c.args.used c.args.out.now (omega arith)

pub loop-row-preserved : goal.loop-row-preserved
loop-row-preserved c =
    let rest = c.loop-row.rest.now in
    let row = c.row-item.result in
    let behind : c.behind-rest.result.now ≡ drop (length row.components) rest = c.behind-rest.ensures ∙ ap (λ (l : List Component). drop (length l) rest) c.as_slice.ensures.value in
    let left = λ (states : List PartStatus). flat_map row_text (rows_of (drop (c.loop-row.row-index + 1) c.args.rows.now) states) in
    let next = rows_next c.args.rows.now rest c.loop-row.row-index row c.row-item.is c.loop-row-test.true in
    ahead_step (row_text (row_of row rest)) (left c.behind-rest.result.now) c.loop-row.invariant (next ∙ ap (λ (states : List PartStatus). row_text (row_of row rest) ++ left states) (sym behind)) c.lay_row-used.ensures

pub returns : goal.returns
returns c = ahead_end c.loop-row.invariant (rows_end c.args.rows.now c.loop-row.rest.now c.loop-row.row-index (omega arith))
