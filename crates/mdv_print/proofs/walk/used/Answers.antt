use Rattle.std.proofs.Common.{◌∙◌, [], sym, subst, ap, take, ◌++◌}
use Rattle.std.specs.List.{flat_map}
use Rattle.mdv_keys.specs.Marks.{AreMarked, below_it, volume_key}
use Rattle.mdv_plan.specs.declared.volume.Volume.{Volume as OneVolume}
use Rattle.mdv_keys.proofs.Marking.{marks_none}
use Rattle.mdv_keys.proofs.Users.{below_more}
use Rattle.mdv_print.proofs.walk.used.Goals as goal

pub loop-volume-init : goal.loop-volume-init
loop-volume-init c = subst (λ m. AreMarked m []) (sym c.in_ok-marks.ensures) (marks_none volume_key 8192)

pub loop-volume-preserved : goal.loop-volume-preserved
loop-volume-preserved c =
    let ws = c.args.volumes.now in
    let i = c.loop-volume.volume-index in
    let w = c.volume-item.result in
    let marked = c.in_ok-mark_named.ensures (flat_map below_it (take i ws)) c.loop-volume.invariant in
    let place = ap (λ (x : OneVolume). flat_map below_it (take i ws) ++ below_it x) c.volume-item.is ∙ below_more ws i w c.loop-volume-test.true in
    subst (AreMarked c.mark_named.new.marks) place marked
