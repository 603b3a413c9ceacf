use Rattle.std.proofs.Common.{[], ◌∷◌, ◌++◌, Contains, take, sym, ◌∙◌, ap, subst}
use Rattle.std.proofs.lemmas.List.{take_all, take_more}
use Rattle.std.proofs.lemmas.List.Elements.{Contains-get_or}
use Rattle.mdv_store.proofs.Sitting.{replica_of}
use Rattle.mdv_places.specs.Below.{Seat}
use Rattle.mdv_places.specs.Losing.{AreDrivesOf}
use Rattle.mdv_places.proofs.Losing.{drives_push}
use Rattle.mdv_places.proofs.listing.active_drives.Goals as goal

pub add_drive-requires : goal.add_drive-requires
add_drive-requires c r is =
    let seats = c.args.seats.now in
    let x = c.seat-item.result in
    c.requires r (replica_of seats x r (subst (Contains seats) (sym c.seat-item.is) (Contains-get_or seats c.loop-seat.seat-index x c.loop-seat-test.true)) is)

pub loop-seat-preserved : goal.loop-seat-preserved
loop-seat-preserved c =
    let seats = c.args.seats.now in
    let i = c.loop-seat.seat-index in
    let x = c.seat-item.result in
    let more = take_more seats i x c.loop-seat-test.true ∙ ap (λ (s : Seat). take i seats ++ s ∷ []) (sym c.seat-item.is) in
    subst (AreDrivesOf c.add_drive.new.drives) (sym more) (drives_push (take i seats) x c.loop-seat.drives c.add_drive.new.drives c.loop-seat.invariant c.add_drive.ensures)

pub returns : goal.returns
returns c = subst (AreDrivesOf c.loop-seat.drives) (take_all c.loop-seat.seat-index c.args.seats.now c.loop-seat-test.false) c.loop-seat.invariant
