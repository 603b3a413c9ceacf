use Rattle.std.proofs.Common.{◌≡◌, ◌∙◌, ◌&&◌, Bool, List, ℕ, nat_eq, ap, sym, subst}
use Rattle.mdv_shelf.specs.Shelves.{DriveFailures}
use Rattle.mdv_store.specs.Below.{Table, last_of, settled}
use Rattle.mdv_store.specs.Commit.{next_mark}
use Rattle.mdv_store.specs.Opened.{IsOpen}
use Rattle.mdv_store.specs.Seats.{AreLaid, AreLeft, HaveRoom, TakesSlot, active_of}
use Rattle.mdv_store.specs.Settling.{last_seats, settled_by}
use Rattle.mdv_store.specs.Shares.{short_of}
use Rattle.mdv_store.specs.Text.{blocks_for}
use Rattle.mdv_store.specs.declared.booting.BootEnd.TheVariants as end
use Rattle.mdv_store.specs.Writing.{WroteAll, text_size}
use Rattle.mdv_store.specs.declared.seats.Seat.{Seat}
use Rattle.mdv_store.proofs.Again.{now_laid, now_room}
use Rattle.mdv_store.proofs.Finishing.{over_open, settling_done, settling_lost, taken_over}
use Rattle.mdv_store.proofs.settling.settle.Goals as goal
use Rattle.mdv_store.proofs.settling.settle.Goals.{else-calm, then-calm}

pub write_all-requires-clause-laid : goal.write_all-requires-clause-laid
write_all-requires-clause-laid g c =
    subst (AreLaid (g.S.Shelf.sizes c.args.shelf.now)) (sym (taken_over c.args.draft c.args.next c.requires.draft _ _ c.as_slice.ensures c.take_over.ensures)) (now_laid c.args.draft.seats (last_of c.args.draft.table.plan.lists) (g.S.Shelf.sizes c.args.shelf.now) c.requires.laid)

pub write_all-requires-clause-in_seats : goal.write_all-requires-clause-in_seats
write_all-requires-clause-in_seats g c =
    subst (λ (t : Table). HaveRoom (blocks_for (text_size t)) c.take_over.new.now) (sym c.settle-table.ensures.value)
    (subst (HaveRoom (blocks_for (text_size (settled c.args.draft.table)))) (sym (taken_over c.args.draft c.args.next c.requires.draft _ _ c.as_slice.ensures c.take_over.ensures))
    (now_room c.args.draft.seats (last_of c.args.draft.table.plan.lists) (blocks_for (text_size (settled c.args.draft.table))) c.requires.draft.in_seats))

pub returns-in-Some : goal.returns-in-Some
returns-in-Some g c =
    let was = taken_over c.args.draft c.args.next c.requires.draft _ _ c.as_slice.ensures c.take_over.ensures in
    let wrote : WroteAll g.S.Shelf (next_mark c.args.draft.mark) c.settle-table.result c.args.shelf.now c.write_all.new.shelf c.take_over.new.now c.write_all.new.seats = record { left = c.write_all.ensures.left; moments = c.write_all.ensures.moments; ends = c.write_all.ensures.end; passed = c.write_all.ensures.passed; kept = c.write_all.ensures.kept } in
    settling_lost g.S.Shelf c.args.shelf.now c.write_all.new.shelf c.args.need c.args.draft c.args.calm c.take_over.new.now c.write_all.new.seats c.settle-table.result was c.settle-table.ensures.value wrote
    c.in-Some.share (c.in-Some.ensures ∙ ap (λ (l : List Seat). short_of c.args.need l c.settle-table.result.plan.lists) c.as_slice-3.ensures) c.lost.result (λ i. record { end = c.lost.ensures.end i; calm = c.lost.ensures.calm i })

pub opened-requires : goal.opened-requires
opened-requires g c =
    let was = taken_over c.args.draft c.args.next c.requires.draft _ _ c.as_slice.ensures c.take_over.ensures in
    let left = subst (λ (l : List Seat). AreLeft (DriveFailures g.S.Shelf c.args.shelf.now c.write_all.new.shelf) (TakesSlot (next_mark c.args.draft.mark) (text_size c.settle-table.result)) l c.write_all.new.seats) was c.write_all.ensures.left in
    let so = over_open c.args.draft c.args.next c.requires.draft (DriveFailures g.S.Shelf c.args.shelf.now c.write_all.new.shelf) (text_size c.settle-table.result) c.write_all.new.seats left c.args.draft.room.len c.requires.draft.whole c.requires.draft.first c.requires.draft.short in
    record { «open» = subst (λ (t : Table). IsOpen (record (settled_by c.args.draft c.write_all.new.seats) { table = t }) c.args.draft.room.len) (sym c.settle-table.ensures.value) so }

pub returns : goal.returns
returns g c =
    let was = taken_over c.args.draft c.args.next c.requires.draft _ _ c.as_slice.ensures c.take_over.ensures in
    let wrote : WroteAll g.S.Shelf (next_mark c.args.draft.mark) c.settle-table.result c.args.shelf.now c.write_all.new.shelf c.take_over.new.now c.write_all.new.seats = record { left = c.write_all.ensures.left; moments = c.write_all.ensures.moments; ends = c.write_all.ensures.end; passed = c.write_all.ensures.passed; kept = c.write_all.ensures.kept } in
    let counted : c.active-readable.result ≡ active_of (last_seats c.args.draft) = c.active-readable.ensures ∙ ap active_of (c.as_slice-2.ensures ∙ was) in
    let calm_is : c.if-calm.calm ≡ (c.args.calm && nat_eq (active_of c.write_all.new.seats) (active_of (last_seats c.args.draft))) = elim c.if-calm.branch [
      | then-calm w ↦ w.calm-is ∙ ap (λ (n : ℕ). nat_eq n c.active-readable.result) (w.active.ensures ∙ ap active_of w.as_slice-then-calm.ensures) ∙ ap (nat_eq (active_of c.write_all.new.seats)) counted
          ∙ ap (λ (b : Bool). b && nat_eq (active_of c.write_all.new.seats) (active_of (last_seats c.args.draft))) (sym w.if-calm.true)
      | else-calm w ↦ w.calm-is ∙ w.if-calm.false ∙ ap (λ (b : Bool). b && nat_eq (active_of c.write_all.new.seats) (active_of (last_seats c.args.draft))) (sym w.if-calm.false)
    ] in
    settling_done g.S.Shelf c.args.shelf.now c.write_all.new.shelf c.args.need c.args.draft c.args.calm c.take_over.new.now c.write_all.new.seats c.settle-table.result was c.settle-table.ensures.value wrote
    (sym c.in_default.is ∙ c.short.ensures ∙ ap (λ (l : List Seat). short_of c.args.need l c.settle-table.result.plan.lists) c.as_slice-3.ensures) c.opened.result
    (c.opened.ensures ∙ (λ i. record { end = end.Adopted (record (settled_by c.args.draft c.write_all.new.seats) { table = c.settle-table.ensures.value i }); calm = calm_is i }))
