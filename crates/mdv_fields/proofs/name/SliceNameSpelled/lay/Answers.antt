use Rattle.mdv_fields.proofs.Placing.{laid_then}
use Rattle.mdv_fields.specs.Names.{slice_text}
use Rattle.mdv_fields.proofs.name.SliceNameSpelled.lay.Goals as goal

pub returns : goal.returns
unfolding slice_text
returns c = laid_then c.lay-used.ensures c.lay.ensures
