use Rattle.std.proofs.Common.{sym, ◌∙◌}
use Rattle.mdv_fields.proofs.Placing.{laid_then}
use Rattle.mdv_codec.specs.Recorded.{submirror_text}
use Rattle.mdv_fields.specs.Reading.{short_text}
use Rattle.mdv_whole.specs.Sides.{submirror_of}
use Rattle.mdv_whole.proofs.Ahead.{beside_text, length-beside}
use Rattle.mdv_whole.proofs.kinds.lay_submirrors.Goals as goal

pub returns : goal.returns
unfolding short_text
returns c =
    let size = c.min-count.ensures ∙ sym (length-beside submirror_of c.args.submirrors.now c.args.offline.now) in
    laid_then (rw size at c.lay-used.ensures) (rw (beside_text submirror_text submirror_of c.args.submirrors.now c.args.offline.now) at c.lay_pairs.ensures)
