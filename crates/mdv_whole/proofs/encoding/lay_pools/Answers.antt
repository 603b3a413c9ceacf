use Rattle.std.proofs.Common.{sym}
use Rattle.mdv_fields.proofs.Placing.{laid_then}
use Rattle.std.proofs.lemmas.List.{length-map}
use Rattle.std.proofs.lemmas.List.Folds.{flat_map-map}
use Rattle.mdv_codec.specs.Recorded.{pool_part_text}
use Rattle.mdv_fields.specs.Reading.{long_text}
use Rattle.mdv_whole.specs.Sides.{pool_of}
use Rattle.mdv_whole.proofs.encoding.lay_pools.Goals as goal

pub returns : goal.returns
unfolding long_text
returns c =
    let with_states = pool_of c.args.states.now in
    let size = sym (length-map c.args.pools.now with_states) in
    laid_then (rw size at c.lay-used.ensures) (rw (sym (flat_map-map pool_part_text with_states c.args.pools.now)) at c.lay_all.ensures)
