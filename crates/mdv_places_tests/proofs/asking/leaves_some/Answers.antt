use Rattle.std.proofs.Common.{◌≡◌, ◌≤◌, length, sym, ◌∙◌, arith}
use Rattle.std.proofs.lemmas.Bool.Decides.{nat_tests}
use Rattle.mdv_places_tests.proofs.Few.{less_few}
use Rattle.mdv_places_tests.proofs.asking.leaves_some.Goals as goal

pub returns : goal.returns
returns c is =
    let few : length c.args.places.now ≤ 50 = (let more = c.if-places-gt50.false in grind (arith, nat_tests)) in
    less_few c.args.places.now c.args.slices.now few (sym c.has_one_left.ensures ∙ is)
