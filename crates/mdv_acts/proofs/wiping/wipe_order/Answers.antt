use Rattle.std.proofs.Common.{◌≡◌, length, take, slice_index_or, sym, ◌∙◌, ap, arith}
use Rattle.std.proofs.lemmas.List.{length-take, take_more}
use Rattle.mdv_acts.specs.Wipes.{in_front, wipe_order}
use Rattle.mdv_acts.proofs.Ordering.{order_length, order_push}
use Rattle.mdv_acts.proofs.Trying.{no_place}
use Rattle.mdv_acts.proofs.wiping.wipe_order.Goals as goal

pub in_front-ordered-requires : goal.in_front-ordered-requires
in_front-ordered-requires c =
    let places = c.args.places.now in
    let i = c.loop-place.place-index in
    let same : length c.as_slice.result.now ≡ length (take i places) = ap length (c.as_slice.ensures ∙ c.loop-place.invariant) ∙ order_length (take i places) in
    let few = length-take i places in
    let below = c.loop-place-test.true in
    let most = c.requires in
    omega (arith, same, few, below, most)

pub loop-place-preserved : goal.loop-place-preserved
loop-place-preserved c =
    let places = c.args.places.now in
    let i = c.loop-place.place-index in
    c.in_front-ordered.ensures ∙ ap (in_front (slice_index_or places i no_place)) (c.as_slice.ensures ∙ c.loop-place.invariant)
    ∙ sym (order_push (take i places) (slice_index_or places i no_place)) ∙ ap wipe_order (sym (take_more places i no_place c.loop-place-test.true))
