use Rattle.std.proofs.Common.{List, [], ◌∷◌, ◌++◌, length, sym, ◌∙◌, ap, append_assoc, arith}
use Rattle.std.proofs.lemmas.List.{length-append}
use Rattle.mdv_acts.proofs.Asked.{start_short}
use Rattle.mdv_places.specs.Asked.{places_from, places_on}
use Rattle.mdv_places.specs.Below.{Place}
use Rattle.mdv_places.proofs.Lists.{places_count, places_next}
use Rattle.mdv_places.proofs.asked.add_places.Goals as goal

pub place_on-requires : goal.place_on-requires
place_on-requires c = (let below = c.loop-number-test.true in let most = c.requires.count in start_short c.loop-number.number c.args.blocks (omega (arith, below, most)) c.requires.blocks)

pub push-requires : goal.push-requires
push-requires c =
    let n = c.loop-number.number in
    let slice = c.args.slice in
    let blocks = c.args.blocks in
    let so_far = ap length c.loop-number.invariant ∙ length-append c.args.list.now (places_from slice blocks 0 n) in
    let all = length-append c.args.list.now (places_on c.args.count blocks slice) in
    let few = c.requires.few in
    let below = c.loop-number-test.true in
    omega (arith, so_far, all, few, below, places_count slice blocks 0 n, places_count slice blocks 0 c.args.count)

pub loop-number-preserved : goal.loop-number-preserved
loop-number-preserved c =
    let n = c.loop-number.number in
    let slice = c.args.slice in
    let blocks = c.args.blocks in
    let front = places_from slice blocks 0 n in
    c.push.ensures ∙ ap (λ (l : List Place). l ++ c.place_on.result ∷ []) c.loop-number.invariant ∙ append_assoc c.args.list.now front (c.place_on.result ∷ [])
    ∙ ap (λ (l : List Place). c.args.list.now ++ l) (ap (λ (p : Place). front ++ p ∷ []) c.place_on.ensures ∙ sym (places_next slice blocks n))
