use Rattle.std.proofs.Common.{sym}
use Rattle.mdv_fields.proofs.Placing.{laid_then}
use Rattle.std.proofs.lemmas.List.{length-map}
use Rattle.std.proofs.lemmas.List.Folds.{flat_map-map}
use Rattle.mdv_codec.specs.Recorded.{spare_part_text, pool_part_text}
use Rattle.mdv_fields.specs.Reading.{long_text}
use Rattle.mdv_whole.specs.Sides.{spare_of}
use Rattle.mdv_whole.proofs.pools.PoolBesideStates.lay_with.Goals as goal

pub returns : goal.returns
unfolding pool_part_text long_text
returns c =
    let spares = c.as_slice-spares.result.now in
    let with_state = spare_of c.args.noted.now in
    let size = sym (length-map spares with_state) in
    rw c.as_slice-spares.ensures.value at (laid_then c.lay-used.ensures (laid_then (rw size at c.lay-used-2.ensures) (rw (sym (flat_map-map spare_part_text with_state spares)) at c.lay_all.ensures)))
