use Rattle.std.proofs.Common.{sym, ◌∙◌, subst}
use Rattle.std.proofs.lemmas.Bool.{false≢true}
use Rattle.mdv_name.specs.declared.slice_lines.SliceAt.{SliceAt}
use Rattle.mdv_config.specs.Table.{IsPlaceIn}
use Rattle.mdv_config.proofs.of_geometry.is_place_of.Goals as goal

pub returns-else-is_place_in : goal.returns-else-is_place_in
returns-else-is_place_in c =
    let place = c.args.place.now in
    (λ test. absurd (false≢true (sym c.if-is_place_in.false ∙ test)), λ is. absurd (false≢true (c.if-is_place_in.ensures.1 (subst (λ (a : SliceAt). IsPlaceIn a place) (c.requires.once place.slice is.at c.in-Some.at is.has c.in-Some.ensures.value) is.lies))))

pub returns-in-None : goal.returns-in-None
returns-in-None c = (λ test. cc, λ is. absurd (c.in-None.ensures.none is.at is.has))
