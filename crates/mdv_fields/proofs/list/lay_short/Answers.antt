use Rattle.mdv_fields.specs.Reading.{short_text}
use Rattle.mdv_fields.proofs.Placing.{laid_then}
use Rattle.mdv_fields.proofs.list.lay_short.Goals as goal

pub returns : goal.returns
unfolding short_text
returns g c = laid_then c.lay-used.ensures c.lay_list.ensures
