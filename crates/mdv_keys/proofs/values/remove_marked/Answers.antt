use Rattle.std.proofs.Common.{◌∙◌, ap, List, Bool}
use Rattle.mdv_plan.specs.Sorted.{unmarked}
use Rattle.mdv_keys.proofs.Kept.{unmarked_kept}
use Rattle.mdv_keys.proofs.values.remove_marked.Goals as goal

pub returns : goal.returns
returns g c = λ gone are.
    let key = g.T.Keyed.key in
    c.remove_marked.ensures ∙ ap (λ (m : List Bool). unmarked key m c.args.values.now) c.as_slice.ensures.value ∙ unmarked_kept key g.row.LIMIT c.args.marks.now gone c.args.values.now are c.as_slice-keys.ensures.keys
