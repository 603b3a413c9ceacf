use Rattle.mdv_fields.specs.Reading.{long_text}
use Rattle.mdv_fields.proofs.Placing.{laid_then}
use Rattle.mdv_fields.proofs.list.lay_long.Goals as goal

pub returns : goal.returns
unfolding long_text
returns g c = laid_then c.lay-used.ensures c.lay_list.ensures
