use Rattle.std.proofs.Common.{◌<◌, sym, ◌∙◌, ap, length, arith}
use Rattle.std.proofs.lemmas.Bool.Decides.{nat_tests}
use Rattle.mdv_parts.specs.Runs.{component_of, front}
use Rattle.mdv_tab.specs.Options.{raid_options}
use Rattle.mdv_tab.specs.Form.{raid_with}
use Rattle.mdv_tab.proofs.Columns.{raid_behind}
use Rattle.mdv_tab.proofs.form.read_raid.Goals as goal

pub returns-then-not-is_empty : goal.returns-then-not-is_empty
returns-then-not-is_empty c =
    let columns = front component_of c.args.parts.now in
    let some : 0 < length c.in-Some.rest.now = grind (arith, nat_tests) in
    sym (ap (raid_with c.args.name columns) (ap raid_options (sym c.in_ok-columns.ensures.rest) ∙ c.in-Some.ensures) ∙ raid_behind c.args.name columns c.in-Some.options c.in-Some.rest.now some)
