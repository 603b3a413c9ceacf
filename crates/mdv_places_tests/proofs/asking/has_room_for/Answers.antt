use Rattle.std.proofs.Common.{◌≡◌, ◌≤◌, ◌+◌, ◌*◌, ◌++◌, length, subst, arith}
use Rattle.std.proofs.lemmas.Bool.Decides.{nat_tests}
use Rattle.std.specs.Prelude.{flat_map}
use Rattle.mdv_places.specs.Asked.{places_asked}
use Rattle.mdv_places_tests.specs.Few.{AreFew}
use Rattle.mdv_places_tests.proofs.Few.{more_few}
use Rattle.mdv_places_tests.proofs.asking.has_room_for.Goals as goal

pub returns : goal.returns
returns c is blocks =
    let some : 1 ≤ length c.args.places.now = (let none = c.if-is_empty.ensures in let false = c.if-is_empty.false in let result = c.is_empty.ensures in grind (arith, nat_tests)) in
    let few : length c.args.places.now + length c.args.lines.now * c.from.result ≤ 50 = grind (arith, nat_tests) in
    subst (λ n. AreFew (c.args.places.now ++ places_asked c.args.lines.now n blocks)) c.from.ensures (more_few c.args.places.now c.args.lines.now c.from.result blocks some few)
