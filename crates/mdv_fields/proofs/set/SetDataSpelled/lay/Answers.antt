use Rattle.mdv_fields.proofs.Placing.{laid_then}
use Rattle.mdv_fields.specs.Sets.{set_text}
use Rattle.mdv_fields.proofs.set.SetDataSpelled.lay.Goals as goal

pub returns : goal.returns
unfolding set_text
returns c = laid_then c.lay-used.ensures (laid_then (rw c.as_slice.ensures.value at c.lay_short-used.ensures) (laid_then (rw c.as_slice-2.ensures.value at c.lay_long-used.ensures) (rw c.as_slice-3.ensures.value at c.lay_short.ensures)))
