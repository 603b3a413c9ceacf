use Rattle.std.proofs.Common.{List, ◌++◌, length, slice_index_or, sym, take, ◌∙◌, ap, append_assoc, arith}
use Rattle.std.proofs.lemmas.List.{length-append}
use Rattle.std.specs.Prelude.{flat_map}
use Rattle.mdv_acts.proofs.Acting.{flat_more}
use Rattle.mdv_engine_law.specs.Below.{Place}
use Rattle.mdv_engine_law.specs.Places.{places_on}
use Rattle.mdv_engine.proofs.Coming.{few_more, no_slice}
use Rattle.mdv_places.proofs.Lists.{places_count}
use Rattle.mdv_engine.proofs.lists.list_more.Goals as goal

pub add_places-requires-clause-few : goal.add_places-requires-clause-few
add_places-requires-clause-few c =
    let slices = c.args.slices.now in
    let i = c.loop-slice.slice-index in
    let so_far = ap length c.loop-slice.invariant ∙ length-append c.args.places.now (flat_map (places_on c.args.count c.args.blocks) (take i slices)) in
    let slice = slice_index_or slices i no_slice in
    let room = few_more c.args.count c.args.blocks slices i (length c.args.places.now) (length c.loop-slice.list) c.loop-slice-test.true so_far c.requires.few in
    let one = length-append c.loop-slice.list (places_on c.args.count c.args.blocks slice) in
    omega (arith, room, one, places_count slice c.args.blocks 0 c.args.count)

pub loop-slice-preserved : goal.loop-slice-preserved
loop-slice-preserved c =
    let slices = c.args.slices.now in
    let i = c.loop-slice.slice-index in
    let on = places_on c.args.count c.args.blocks in
    let slice = slice_index_or slices i no_slice in
    c.add_places.ensures ∙ ap (λ (l : List Place). l ++ on slice) c.loop-slice.invariant ∙ append_assoc c.args.places.now (flat_map on (take i slices)) (on slice)
    ∙ ap (λ (l : List Place). c.args.places.now ++ l) (sym (flat_more on slices i no_slice c.loop-slice-test.true))
