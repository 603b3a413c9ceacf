use Rattle.std.proofs.Common.{◌≤◌, ◌++◌, List, length, sym, ◌∙◌, ap, subst}
use Rattle.std.proofs.lemmas.List.Folds.{flat_map-map}
use Rattle.mdv_places.specs.Asked.{asked_of, list_after, places_on}
use Rattle.mdv_places.specs.Below.{Place, SliceLine}
use Rattle.mdv_places.specs.declared.asked.Move.{Move}
use Rattle.mdv_places.proofs.asked.list_after.Goals as goal

pub list_more-requires-clause-few : goal.list_more-requires-clause-few
list_more-requires-clause-few c =
    let few = subst (λ (m : Move). length (list_after (asked_of m) c.args.places.now) ≤ 50) c.in-Add.is c.requires.few in
    subst (λ (l : List Place). length (c.args.places.now ++ l) ≤ 50) (flat_map-map (places_on c.in-Add.count c.in-Add.blocks) (λ (line : SliceLine). line.name) c.in-Add.lines.now) few

pub returns-in-Add : goal.returns-in-Add
returns-in-Add c =
    c.list_more.ensures ∙ ap (λ (l : List Place). c.args.places.now ++ l) (sym (flat_map-map (places_on c.in-Add.count c.in-Add.blocks) (λ (line : SliceLine). line.name) c.in-Add.lines.now))
    ∙ ap (λ (m : Move). list_after (asked_of m) c.args.places.now) (sym c.in-Add.is)
