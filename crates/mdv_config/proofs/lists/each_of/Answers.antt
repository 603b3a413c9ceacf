use Rattle.std.proofs.Common.{ap, ◌∙◌, length, arith}
use Rattle.std.proofs.lemmas.List.{length-append}
use Rattle.mdv_config.specs.Lists.{beside}
use Rattle.mdv_config.proofs.Beside.{beside_few}
use Rattle.mdv_config.proofs.lists.each_of.Goals as goal

pub returns-in-Two-clause-few : goal.returns-in-Two-clause-few
returns-in-Two-clause-few c =
    let old = c.all_of.result.now in
    let new = c.all_of-in-Two.result.now in
    omega (arith, ap length c.add_beside.ensures ∙ length-append c.of-each.result (beside old new), beside_few old new, ap length c.of-each.ensures, c.first_of.ensures.few, c.all_of-in-Two.ensures.few)
