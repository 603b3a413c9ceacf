use Rattle.std.proofs.Common.{sym, ◌∙◌}
use Rattle.mdv_fields.proofs.Placing.{laid_then}
use Rattle.mdv_codec.specs.Recorded.{row_text}
use Rattle.mdv_whole.specs.Sides.{part_of}
use Rattle.mdv_whole.proofs.Ahead.{length-beside}
use Rattle.mdv_whole.proofs.rows.lay_row.Goals as goal

pub returns : goal.returns
unfolding row_text
returns c =
    let size = c.min-width.ensures ∙ sym (length-beside part_of c.as_slice-components.result.now c.args.states.now) in
    rw c.as_slice-components.ensures.value at (laid_then (rw size at c.lay-used.ensures) (laid_then c.lay-used-2.ensures c.lay_parts.ensures))
