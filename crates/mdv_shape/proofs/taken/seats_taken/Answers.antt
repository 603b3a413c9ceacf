use Rattle.std.proofs.Common.{◌≡◌, ◌++◌, List, [], get_or, ◌∙◌, ap, arith}
use Rattle.mdv_shape.specs.Below.{OneVolume, Spare, VolumeStatus}
use Rattle.mdv_shape.specs.Seats.{side_by_side, volume_taken}
use Rattle.mdv_shape.proofs.Beside.{side_added, side_done}
use Rattle.mdv_shape.proofs.taken.seats_taken.Goals as goal

pub loop-i-preserved : goal.loop-i-preserved
loop-i-preserved c =
    let volumes = c.as_slice-volumes.result.now in
    let states = c.as_slice-states.result.now in
    let volume = c.index-volumes-i.result in
    let status = c.index-states-i.result in
    let taken : volume_taken volume status ≡ volume_taken (get_or volumes c.loop-i.i volume) (get_or states c.loop-i.i status) =
    ap (λ (v : OneVolume). volume_taken v status) c.index-volumes-i.is ∙ ap (volume_taken (get_or volumes c.loop-i.i volume)) c.index-states-i.is
    in
    let added = c.in_ok-add_volume.ensures ∙ ap (λ (l : List Spare). c.loop-i.list.items ++ l) taken in
    side_added volume_taken [] c.loop-i.list.items c.add_volume.new.list.items volumes states c.loop-i.i volume status (omega (arith, c.min-i-end.ensures)) (omega (arith, c.min-i-end.ensures)) c.loop-i.invariant added

pub returns : goal.returns
returns c =
    side_done volume_taken [] c.loop-i.list.items c.as_slice-volumes.result.now c.as_slice-states.result.now c.loop-i.i (omega (arith, c.min-i-end.ensures)) c.loop-i.invariant
    ∙ ap (λ (vs : List OneVolume). side_by_side volume_taken vs c.as_slice-states.result.now) c.as_slice-volumes.ensures.value
    ∙ ap (λ (ss : List VolumeStatus). side_by_side volume_taken c.args.table.now.plan.volumes ss) c.as_slice-states.ensures.value
