use Rattle.std.proofs.Common.{◌≤◌, true, List, length, refl, sym, ◌∙◌, subst}
use Rattle.mdv_fitting.specs.Below.{OneVolume}
use Rattle.mdv_fitting.specs.Runs.{IsVolumeApart, Judges}
use Rattle.mdv_fitting.proofs.Judging.{judged_all, judged_more, judged_none, judged_tells, lent}
use Rattle.mdv_fitting.proofs.extents.are_apart.Goals as goal

pub loop-volume-init : goal.loop-volume-init
loop-volume-init c = judged_none c.args.geometry.now c.args.plan.now c.in_ok-runs.runs c.as_slice.result.now c.as_slice.ensures.value c.in_ok-runs.ensures

pub returns-then-not-branch : goal.returns-then-not-branch
returns-then-not-branch c =
    let g = c.args.geometry.now in
    let p = c.args.plan.now in
    let v = c.volume-item.result in
    let at = lent p.volumes c.as_slice-volume-items.result.now c.loop-volume.volume-index v c.as_slice-volume-items.ensures.value c.loop-volume-test.true c.volume-item.is in
    let told = judged_tells g p c.loop-volume.runs c.is_apart.new.runs c.loop-volume.volume-index v c.in_ok-is_apart.field-0 c.loop-volume.invariant at.0 at.1 c.in_ok-is_apart.ensures in
    (λ never. cc (never), λ apart. sym c.if-not-branch.true ∙ told.1 (subst (IsVolumeApart g p) (sym at.1) (apart c.loop-volume.volume-index v at.0)))

pub loop-volume-preserved : goal.loop-volume-preserved
loop-volume-preserved c =
    let p = c.args.plan.now in
    let v = c.volume-item.result in
    let at = lent p.volumes c.as_slice-volume-items.result.now c.loop-volume.volume-index v c.as_slice-volume-items.ensures.value c.loop-volume-test.true c.volume-item.is in
    let judges : Judges c.args.geometry.now p c.loop-volume.runs v.kind c.is_apart.new.runs true = subst (Judges c.args.geometry.now p c.loop-volume.runs v.kind c.is_apart.new.runs) c.if-not-branch.false c.in_ok-is_apart.ensures in
    judged_more c.args.geometry.now p c.loop-volume.runs c.is_apart.new.runs c.loop-volume.volume-index v c.requires.sizes c.loop-volume.invariant at.0 at.1 judges

pub returns : goal.returns
returns c =
    let past = subst (λ (l : List OneVolume). length l ≤ c.loop-volume.volume-index) c.as_slice-volume-items.ensures.value c.loop-volume-test.false in
    (λ _. judged_all c.args.geometry.now c.args.plan.now c.loop-volume.runs c.loop-volume.volume-index c.loop-volume.invariant past, λ _. refl)
