use Rattle.std.proofs.Common.{sym}
use Rattle.mdv_fields.proofs.Placing.{laid_then}
use Rattle.mdv_codec.specs.Recorded.{stripe_text}
use Rattle.mdv_fields.specs.Reading.{long_text}
use Rattle.mdv_whole.proofs.Ahead.{length-rows_of}
use Rattle.mdv_whole.proofs.rows.lay_stripe.Goals as goal

pub returns : goal.returns
unfolding stripe_text long_text
returns c =
    let size = sym (length-rows_of c.as_slice-rows.result.now c.part_states.result.now) in
    rw (c.as_slice-rows.ensures.value, c.part_states.ensures) at (laid_then c.lay-used.ensures (laid_then (rw size at c.lay-used-2.ensures) c.lay_rows.ensures))
