use Rattle.std.proofs.Common.{◌≡◌, List, ◌++◌, ◌∙◌, ap, subst}
use Rattle.mdv_keys.specs.Below.{VolId, kind_below}
use Rattle.mdv_keys.specs.Marks.{AreMarked}
use Rattle.mdv_keys.proofs.using.mark_named.Goals as goal

pub returns : goal.returns
returns c = λ vs are.
    let named : c.as_slice.result.now ≡ kind_below c.args.kind.now = c.as_slice.ensures.value ∙ c.in_ok-add_named.ensures ∙ ap (λ (l : List VolId). l ++ kind_below c.args.kind.now) c.new-below.ensures.items in
    subst (λ (l : List VolId). AreMarked c.mark_volumes.new.marks (vs ++ l)) named (c.mark_volumes.ensures vs are)
