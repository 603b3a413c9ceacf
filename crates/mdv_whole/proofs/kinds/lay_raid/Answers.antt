use Rattle.std.proofs.Common.{sym, ◌∙◌}
use Rattle.mdv_fields.proofs.Placing.{laid_then}
use Rattle.mdv_codec.specs.Recorded.{raid_text, columns_text}
use Rattle.mdv_whole.specs.Sides.{part_of}
use Rattle.mdv_whole.proofs.Ahead.{length-beside}
use Rattle.mdv_whole.proofs.kinds.lay_raid.Goals as goal

pub returns : goal.returns
unfolding raid_text columns_text
returns c =
    let size = c.min-count.ensures ∙ sym (length-beside part_of c.as_slice-columns.result.now c.part_states-states.result.now) in
    let columns = laid_then (rw size at c.lay-used-3.ensures) (laid_then c.lay-used-4.ensures (laid_then (rw c.raid_state_of.ensures at c.lay-used-5.ensures) c.lay_parts.ensures)) in
    rw (c.as_slice-columns.ensures.value, c.part_states-states.ensures) at (laid_then c.lay-used.ensures (laid_then c.lay-used-2.ensures columns))
