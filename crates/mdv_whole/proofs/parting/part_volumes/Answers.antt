use Rattle.std.proofs.Common.{◌≡◌, ◌<◌, length, get_or, refl, sym, ◌∙◌, ap, arith}
use Rattle.std.proofs.lemmas.List.{get_or_default}
use Rattle.mdv_whole.specs.Below.{RecordedVolume}
use Rattle.mdv_whole.specs.Parted.{kind_in, noted_in}
use Rattle.mdv_whole.proofs.Parts.{parted_more}
use Rattle.mdv_whole.proofs.parting.part_volumes.Goals as goal

pub loop-i-preserved : goal.loop-i-preserved
loop-i-preserved c =
    let first = c.index-volumes-i.result in
    let v = c.index-volumes-i-in-loop-i.result in
    let now : c.loop-i.i < length c.loop-i.volumes = omega (arith, c.loop-i-test.true, c.loop-i.auto.volumes) in
    let was : c.loop-i.i < length c.args.volumes.now = omega (arith, c.loop-i-test.true) in
    let same : get_or c.loop-i.volumes c.loop-i.i first ≡ v = get_or_default c.loop-i.volumes c.loop-i.i first v now ∙ sym c.index-volumes-i-in-loop-i.is in
    let taken = c.take_kind.ensures.kind ∙ ap (λ (w : RecordedVolume). w.kind) (sym c.index-volumes-i-in-loop-i.is) in
    let kind = c.in_ok-kind.ensures.0 ∙ ap kind_in taken in
    let state = c.in_ok-kind.ensures.1 ∙ ap noted_in taken in
    rw (c.in_ok-push.ensures.items, c.in_ok-push-2.ensures.items) (parted_more v c.take_kind.new.volume _ _ was c.index-volumes-i-in-loop-i.is (λ i. record { number = (same i).number; kind = kind i }) (λ i. record { number = (same i).number; kind = state i }) refl c.loop-i.invariant)
