use Rattle.std.proofs.Common.{◌∙◌}
use Rattle.mdv_fields.proofs.Placing.{laid_then}
use Rattle.mdv_codec.specs.Record.{head_text, record_text}
use Rattle.mdv_codec.proofs.Records.{length-record_text}
use Rattle.mdv_whole.specs.Sides.{recorded_of}
use Rattle.mdv_whole.proofs.encoding.lay_table.Goals as goal

pub returns : goal.returns
unfolding head_text record_text
returns c =
    let size = c.requires ∙ length-record_text (recorded_of c.args.table.now) in
    laid_then c.lay-used.ensures (laid_then (rw size at c.lay-used-2.ensures) c.lay_body.ensures)
