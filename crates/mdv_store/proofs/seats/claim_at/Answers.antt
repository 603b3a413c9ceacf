use Rattle.std.proofs.Common.{◌∙◌, ap, slice_set}
use Rattle.mdv_store.specs.Passing.{claiming}
use Rattle.mdv_store.specs.declared.seats.Seat.{Seat}
use Rattle.mdv_store.proofs.Stepping.{active_here, step_failed, step_taken}
use Rattle.mdv_store.proofs.seats.claim_at.Goals as goal

pub claim-requires-clause-laid : goal.claim-requires-clause-laid
claim-requires-clause-laid g c =
    c.requires.laid c.in-Some.replica
    (active_here g.S.Shelf (claiming c.args.number) c.args.shelf.now c.args.shelf.now c.args.seats.now c.args.seats.now c.as_slice.result.now c.args.index c.index-as_slice-index.result c.index-as_slice-index-2.result c.in-Some.replica c.requires.within c.as_slice.ensures
    c.in-Some.is)

pub returns-in-Ok : goal.returns-in-Ok
returns-in-Ok g c =
    step_taken g.S.Shelf (claiming c.args.number) c.args.shelf.now c.claim.new.shelf c.args.seats.now c.set.new.self c.as_slice.result.now c.args.index c.index-as_slice-index.result c.index-as_slice-index-2.result c.in-Some.replica c.requires.within c.as_slice.ensures
    c.in-Some.is c.in-Ok.claimed c.in-Ok.ensures (c.set.ensures ∙ ap (λ (s : Seat). slice_set c.args.seats.now c.args.index s) c.active_seat.ensures)

pub returns-in-Err : goal.returns-in-Err
returns-in-Err g c =
    step_failed g.S.Shelf (claiming c.args.number) c.args.shelf.now c.claim.new.shelf c.args.seats.now c.leave_drive.new.seats c.as_slice.result.now c.args.index c.index-as_slice-index.result c.index-as_slice-index-2.result c.in-Some.replica c.requires.within c.as_slice.ensures
    c.in-Some.is c.in-Err.field-0 c.in-Err.ensures c.leave_drive.ensures
