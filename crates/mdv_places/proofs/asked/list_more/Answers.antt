use Rattle.std.proofs.Common.{◌+◌, List, ◌++◌, drop, length, slice_index_or, sym, take, ◌∙◌, ap, append_assoc, arith}
use Rattle.std.proofs.lemmas.List.{length-append}
use Rattle.std.specs.Prelude.{flat_map}
use Rattle.mdv_acts.proofs.Acting.{flat_at, flat_more, no_line}
use Rattle.mdv_places.specs.Asked.{places_on}
use Rattle.mdv_places.specs.Below.{Place, SliceLine}
use Rattle.mdv_places.proofs.asked.list_more.Goals as goal

pub add_places-requires-clause-few : goal.add_places-requires-clause-few
add_places-requires-clause-few c =
    let lines = c.args.lines.now in
    let i = c.loop-line.line-index in
    let on = λ (l : SliceLine). places_on c.args.count c.args.blocks l.name in
    let line = slice_index_or lines i no_line in
    let one = length-append c.loop-line.list (on line) in
    let so_far = ap length c.loop-line.invariant ∙ length-append c.args.places.now (flat_map on (take i lines)) in
    let all = length-append c.args.places.now (flat_map on lines) in
    let split = ap length (flat_at on lines i no_line c.loop-line-test.true) ∙ length-append (flat_map on (take i lines) ++ on line) (flat_map on (drop (i + 1) lines)) in
    let front = length-append (flat_map on (take i lines)) (on line) in
    let few = c.requires.few in
    omega (arith, one, so_far, all, split, front, few)

pub loop-line-preserved : goal.loop-line-preserved
loop-line-preserved c =
    let lines = c.args.lines.now in
    let i = c.loop-line.line-index in
    let on = λ (l : SliceLine). places_on c.args.count c.args.blocks l.name in
    let line = slice_index_or lines i no_line in
    c.add_places.ensures ∙ ap (λ (l : List Place). l ++ on line) c.loop-line.invariant ∙ append_assoc c.args.places.now (flat_map on (take i lines)) (on line)
    ∙ ap (λ (l : List Place). c.args.places.now ++ l) (sym (flat_more on lines i no_line c.loop-line-test.true))
