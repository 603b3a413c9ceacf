use Rattle.std.proofs.Common.{sym, ◌∙◌}
use Rattle.mdv_fields.proofs.Placing.{laid_then}
use Rattle.mdv_codec.specs.Recorded.{volume_text}
use Rattle.mdv_fields.specs.Reading.{long_text}
use Rattle.mdv_whole.specs.Sides.{volume_of}
use Rattle.mdv_whole.proofs.Ahead.{beside_text, length-beside}
use Rattle.mdv_whole.proofs.encoding.lay_volumes.Goals as goal

pub returns : goal.returns
unfolding long_text
returns c =
    let size = c.min-count.ensures ∙ sym (length-beside volume_of c.args.volumes.now c.args.noted.now) in
    laid_then (rw size at c.lay-used.ensures) (rw (beside_text volume_text volume_of c.args.volumes.now c.args.noted.now) at c.lay_pairs.ensures)
