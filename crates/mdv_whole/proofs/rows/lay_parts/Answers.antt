use Rattle.mdv_codec.specs.Recorded.{part_text}
use Rattle.mdv_whole.specs.Sides.{part_of}
use Rattle.mdv_whole.proofs.Ahead.{beside_text}
use Rattle.mdv_whole.proofs.rows.lay_parts.Goals as goal

pub returns : goal.returns
returns c = rw (beside_text part_text part_of c.args.components.now c.args.states.now) at c.lay_pairs.ensures
