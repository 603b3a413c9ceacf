use Rattle.std.proofs.Common.{◌≡◌, ◌∙◌, IfOk, ap, subst}
use Rattle.std.specs.List.{flat_map}
use Rattle.mdv_plan.specs.declared.volume.Volume.{Volume as OneVolume}
use Rattle.std.proofs.Common.{List}
use Rattle.mdv_print.specs.Below.{VolId}
use Rattle.mdv_keys.specs.Marks.{AreMarked, below_it}
use Rattle.mdv_print.specs.Marks.{unmarked_of}
use Rattle.mdv_print.specs.Order.{uppermost}
use Rattle.mdv_print.proofs.Walking.{uppermost_is}
use Rattle.mdv_print.proofs.walk.uppermost.Goals as goal

pub returns : goal.returns
returns c =
    let p = c.args.plan.now in
    let marks = c.in_ok-used.used in
    let all : c.as_slice-volumes.result.now ≡ p.volumes = c.as_slice-volumes.ensures.value in
    let are : AreMarked marks (flat_map below_it p.volumes) = subst (λ (ws : List OneVolume). AreMarked marks (flat_map below_it ws)) all c.in_ok-used.ensures in
    let same : unmarked_of marks c.as_slice-volumes.result.now ≡ uppermost p = ap (unmarked_of marks) all ∙ uppermost_is p marks c.as_slice-volumes.ensures.keys are in
    subst (λ (l : List VolId). IfOk c.unmarked.result (λ list. list.items ≡ l)) same c.unmarked.ensures
