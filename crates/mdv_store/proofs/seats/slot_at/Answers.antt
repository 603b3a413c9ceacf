use Rattle.std.proofs.Common.{◌∙◌, ap, slice_set}
use Rattle.mdv_store.specs.Passing.{slotting}
use Rattle.mdv_store.specs.declared.seats.Seat.{Seat}
use Rattle.mdv_store.proofs.Stepping.{active_here, step_failed, step_taken}
use Rattle.mdv_store.proofs.seats.slot_at.Goals as goal

pub fill-requires-clause-laid : goal.fill-requires-clause-laid
fill-requires-clause-laid g c =
    (c.requires.laid c.in-Some.replica
    (active_here g.S.Shelf (slotting c.args.mark c.args.bytes c.args.body.now) c.args.shelf.now c.args.shelf.now c.args.seats.now c.args.seats.now c.as_slice.result.now c.args.index c.index-as_slice-index.result c.index-as_slice-index-2.result c.in-Some.replica c.requires.within c.as_slice.ensures
    c.in-Some.is)).0

pub fill-requires-clause-room : goal.fill-requires-clause-room
fill-requires-clause-room g c =
    (c.requires.laid c.in-Some.replica
    (active_here g.S.Shelf (slotting c.args.mark c.args.bytes c.args.body.now) c.args.shelf.now c.args.shelf.now c.args.seats.now c.args.seats.now c.as_slice.result.now c.args.index c.index-as_slice-index.result c.index-as_slice-index-2.result c.in-Some.replica c.requires.within c.as_slice.ensures
    c.in-Some.is)).1

pub returns-in-Ok : goal.returns-in-Ok
returns-in-Ok g c =
    step_taken g.S.Shelf (slotting c.args.mark c.args.bytes c.args.body.now) c.args.shelf.now c.fill.new.shelf c.args.seats.now c.set.new.self c.as_slice.result.now c.args.index c.index-as_slice-index.result c.index-as_slice-index-2.result c.in-Some.replica c.requires.within c.as_slice.ensures
    c.in-Some.is c.in-Ok.filled c.in-Ok.ensures (c.set.ensures ∙ ap (λ (s : Seat). slice_set c.args.seats.now c.args.index s) c.active_seat.ensures)

pub returns-in-Err : goal.returns-in-Err
returns-in-Err g c =
    step_failed g.S.Shelf (slotting c.args.mark c.args.bytes c.args.body.now) c.args.shelf.now c.fill.new.shelf c.args.seats.now c.leave_drive.new.seats c.as_slice.result.now c.args.index c.index-as_slice-index.result c.index-as_slice-index-2.result c.in-Some.replica c.requires.within c.as_slice.ensures
    c.in-Some.is c.in-Err.field-0 c.in-Err.ensures c.leave_drive.ensures
