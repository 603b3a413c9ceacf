use Rattle.std.proofs.Common.{◌≡◌, ◌+◌, ◌++◌, ◌∷◌, [], take, sym, ◌∙◌, ap}
use Rattle.std.proofs.lemmas.List.{take_more}
use Rattle.mdv_fitting.specs.Below.{OneVolume}
use Rattle.mdv_fitting.specs.Keys.{start_at}
use Rattle.mdv_fitting.proofs.Starting.{starts_more}
use Rattle.mdv_fitting.proofs.bases.first_starts.Goals as goal

pub loop-volume-preserved : goal.loop-volume-preserved
loop-volume-preserved c k =
    let vs = c.args.volumes.now in
    let i = c.loop-volume.volume-index in
    let v = c.volume-item.result in
    let more : take (i + 1) vs ≡ take i vs ++ v ∷ [] = take_more vs i v c.loop-volume-test.true ∙ ap (λ (w : OneVolume). take i vs ++ w ∷ []) (sym c.volume-item.is) in
    starts_more (take i vs) v c.loop-volume.starts c.add_start.new.starts c.loop-volume.invariant c.in_ok-add_start.ensures k ∙ ap (start_at k) (sym more)
