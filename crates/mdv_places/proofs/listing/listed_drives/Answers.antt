use Rattle.std.proofs.Common.{Bool, cond, List, [], ◌∷◌, ◌++◌, Contains, take, sym, ◌∙◌, ap, subst, append-nil}
use Rattle.std.proofs.lemmas.List.{take_all}
use Rattle.std.proofs.lemmas.List.Elements.{Contains-get_or, filter_more}
use Rattle.mdv_store.proofs.Sitting.{replica_of}
use Rattle.mdv_store.specs.Listing.{is_listed_in, seats_in}
use Rattle.mdv_places.specs.Below.{Seat}
use Rattle.mdv_base.specs.DriveSet.{Drives}
use Rattle.mdv_places.specs.Losing.{AreDrivesOf, HasJoined}
use Rattle.mdv_places.proofs.Losing.{drives_push}
use Rattle.mdv_places.proofs.listing.listed_drives.Goals as goal
use Rattle.mdv_places.proofs.listing.listed_drives.Goals.{then-has_place, else-has_place}

pub add_drive-requires : goal.add_drive-requires
add_drive-requires c r is =
    let seats = c.args.seats.now in
    let x = c.seat-item.result in
    c.requires r (replica_of seats x r (subst (Contains seats) (sym c.seat-item.is) (Contains-get_or seats c.loop-seat.seat-index x c.loop-seat-test.true)) is)

pub loop-seat-preserved : goal.loop-seat-preserved
loop-seat-preserved c =
    let seats = c.args.seats.now in
    let list = c.args.list.now in
    let i = c.loop-seat.seat-index in
    let x = c.seat-item.result in
    let was = seats_in list (take i seats) in
    let more = filter_more (is_listed_in list) seats i x c.loop-seat-test.true ∙ ap (λ (s : Seat). was ++ cond (is_listed_in list s) (s ∷ []) []) (sym c.seat-item.is) in
    elim c.if-has_place.branch [
      | then-has_place w ↦ subst (AreDrivesOf c.if-has_place.drives) (sym (more ∙ ap (λ (b : Bool). was ++ cond b (x ∷ []) []) (sym c.has_place.ensures ∙ w.if-has_place.true)))
          (drives_push was x c.loop-seat.drives c.if-has_place.drives c.loop-seat.invariant (subst (HasJoined c.loop-seat.drives x.replica) (sym w.drives-is) w.add_drive.ensures))
      | else-has_place w ↦ subst (AreDrivesOf c.if-has_place.drives) (sym (more ∙ ap (λ (b : Bool). was ++ cond b (x ∷ []) []) (sym c.has_place.ensures ∙ w.if-has_place.false) ∙ append-nil was))
          (subst (λ (ds : Drives). AreDrivesOf ds was) (sym w.drives-is) c.loop-seat.invariant)
    ]

pub returns : goal.returns
returns c = subst (λ (ss : List Seat). AreDrivesOf c.loop-seat.drives (seats_in c.args.list.now ss)) (take_all c.loop-seat.seat-index c.args.seats.now c.loop-seat-test.false) c.loop-seat.invariant
