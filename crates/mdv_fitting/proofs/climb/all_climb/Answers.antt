use Rattle.std.proofs.Common.{◌≡◌, ◌≤◌, ◌+◌, ◌++◌, ◌∷◌, [], List, length, take, sym, ◌∙◌, ap, subst}
use Rattle.std.proofs.lemmas.List.{take_all, take_more}
use Rattle.mdv_fitting.specs.Below.{OneVolume}
use Rattle.mdv_fitting.proofs.Climbing.{Climbed, climbed_more, climbed_none, climbed_on}
use Rattle.mdv_fitting.proofs.Judging.{lent}
use Rattle.mdv_fitting.proofs.climb.all_climb.Goals as goal

pub loop-volume-init : goal.loop-volume-init
loop-volume-init c = climbed_none c.args.geometry.now c.args.plan.now c.in_ok-lasts.lasts c.in_ok-lasts.ensures

pub loop-volume-preserved : goal.loop-volume-preserved
loop-volume-preserved c =
    let g = c.args.geometry.now in
    let p = c.args.plan.now in
    let vs = p.volumes in
    let i = c.loop-volume.volume-index in
    let v = c.volume-item.result in
    let at = lent vs c.as_slice-volume-items.result.now i v c.as_slice-volume-items.ensures.value c.loop-volume-test.true c.volume-item.is in
    let more : take (i + 1) vs ≡ take i vs ++ v ∷ [] = take_more vs i v at.0 ∙ ap (λ (w : OneVolume). take i vs ++ w ∷ []) (sym at.1) in
    subst (λ (l : List OneVolume). Climbed g p l c.climb_volume.new.lasts) (sym more) (climbed_more g p (take i vs) v c.loop-volume.lasts c.climb_volume.new.lasts c.loop-volume.invariant (c.in_ok-climb_volume.ensures c.if-not-branch.false))

pub returns : goal.returns
returns c =
    let g = c.args.geometry.now in
    let p = c.args.plan.now in
    let i = c.loop-volume.volume-index in
    let past = subst (λ (l : List OneVolume). length l ≤ i) c.as_slice-volume-items.ensures.value c.loop-volume-test.false in
    λ _. climbed_on g p c.loop-volume.lasts c.requires.sound (subst (λ (l : List OneVolume). Climbed g p l c.loop-volume.lasts) (take_all i p.volumes past) c.loop-volume.invariant)
