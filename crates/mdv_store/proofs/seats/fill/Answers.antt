use Rattle.std.proofs.Common.{◌≡◌, ap, subst}
use Rattle.mdv_base.specs.Causes.{RoseOnce}
use Rattle.mdv_replica.specs.Replica.{IsSlotWritten, SlotWriting}
use Rattle.mdv_replica.specs.declared.replica.Head.{Head}
use Rattle.mdv_replica.specs.declared.replica.PlaceAt.{PlaceAt}
use Rattle.mdv_shelf.specs.Calls.{OnDrive}
use Rattle.mdv_shelf.specs.Moments.{Ends, Moments}
use Rattle.mdv_shelf.specs.Shelves.{KeptOn}
use Rattle.mdv_shelf.proofs.Moments.{ends_both, moments_end}
use Rattle.mdv_store.specs.Below.{at_of}
use Rattle.mdv_store.specs.Passing.{slotting}
use Rattle.mdv_store.specs.Seats.{IsSpareOf}
use Rattle.mdv_store.proofs.Rows.{err_is}
use Rattle.mdv_store.proofs.Slotting.{filling}
use Rattle.mdv_store.proofs.seats.fill.Goals as goal

pub returns-in_err-write_slot : goal.returns-in_err-write_slot
returns-in_err-write_slot g c =
    let spare : IsSpareOf c.args.replica.head c.spare_slot-slot.result = record { spare = c.spare_slot-slot.ensures.spare; tie = c.spare_slot-slot.ensures.tie } in
    rw (err_is c.from_residual.result c.in_err-write_slot.field-0.0 c.from_residual.ensures.1) (record {
      moments = filling c.args.mark c.args.bytes c.args.body.now c.args.replica c.spare_slot-slot.result c.at.result (g.S.Shelf.tale c.args.shelf.now) (g.S.Shelf.tale c.write_slot.new.shelf) c.at.ensures spare c.write_slot.ensures.moments;
      came = record {
        failed = subst (λ (a : PlaceAt). RoseOnce (g.S.Shelf.faults c.args.shelf.now (OnDrive a.drive.0)) (g.S.Shelf.faults c.write_slot.new.shelf (OnDrive a.drive.0))) c.at.ensures c.in_err-write_slot.ensures.cause.failed;
        made = c.in_err-write_slot.ensures.counted.any;
      };
      wrote = c.write_slot.ensures.counted.wrote;
      kept = subst (λ (a : PlaceAt). KeptOn g.S.Shelf c.args.shelf.now c.write_slot.new.shelf (OnDrive a.drive.0)) c.at.ensures c.write_slot.ensures.kept;
    })

pub returns : goal.returns
returns g c =
    let r = c.args.replica in
    let mark = c.args.mark in
    let bytes = c.args.bytes in
    let body = c.args.body.now in
    let slot = c.spare_slot-slot.result in
    let w = slotting mark bytes body in
    let old = g.S.Shelf.tale c.args.shelf.now in
    let new = g.S.Shelf.tale c.write_slot.new.shelf in
    let spare : IsSpareOf r.head slot = record { spare = c.spare_slot-slot.ensures.spare; tie = c.spare_slot-slot.ensures.tie } in
    let moments = subst (λ (a : PlaceAt). Moments (SlotWriting a slot mark bytes body) old new) c.at.ensures c.write_slot.ensures.moments in
    let settled = subst (λ (a : PlaceAt). Ends (λ t u. IsSlotWritten a slot mark bytes body u) old new) c.at.ensures c.in_ok-write_slot.ensures.settled in
    let head = ap (λ (h : Head). record r { head = h }) c.with_slot-head.ensures in
    record {
      moments = filling mark bytes body r slot c.at.result old new c.at.ensures spare c.write_slot.ensures.moments;
      came = record {
        took = (slot, spare, head);
        end = ends_both (SlotWriting (at_of r) slot mark bytes body) (λ t u. IsSlotWritten (at_of r) slot mark bytes body u) (w.Ends r _) old new (λ t u way fixed. (slot, spare, head, way, fixed))
            (moments_end (SlotWriting (at_of r) slot mark bytes body) old new moments) settled;
        calm = subst (λ (a : PlaceAt). g.S.Shelf.faults c.write_slot.new.shelf (OnDrive a.drive.0) ≡ g.S.Shelf.faults c.args.shelf.now (OnDrive a.drive.0)) c.at.ensures c.in_ok-write_slot.ensures.cause.calm;
        made = c.in_ok-write_slot.ensures.counted.done;
      };
      wrote = c.write_slot.ensures.counted.wrote;
      kept = subst (λ (a : PlaceAt). KeptOn g.S.Shelf c.args.shelf.now c.write_slot.new.shelf (OnDrive a.drive.0)) c.at.ensures c.write_slot.ensures.kept;
    }
