use Rattle.std.proofs.Common.{List, Option, sym, ◌∙◌, ap, subst}
use Rattle.mdv_base.specs.DriveSet.{Drives}
use Rattle.mdv_store.specs.Listing.{listed_by, seats_then}
use Rattle.mdv_places.specs.Below.{Seat}
use Rattle.mdv_places.specs.Losing.{AreDrivesOf, AreNumbered}
use Rattle.mdv_places.proofs.Losing.{listed_lost, numbered, small_now}
use Rattle.mdv_places.proofs.listing.list_both.Goals as goal
use Rattle.mdv_places.proofs.listing.list_both.Goals.{in-Some, in-None}

pub active_drives-tried-requires : goal.active_drives-tried-requires
active_drives-tried-requires g c =
    subst AreNumbered (ap (λ (s : Option (List Seat)). seats_then s c.args.store.now.seats) c.in-Some.is ∙ sym c.as_slice.ensures) (numbered (g.S.Shelf.sizes c.args.shelf.now) (seats_then c.args.hand.seats c.args.store.now.seats) c.requires.few c.requires.laid)

pub active_drives-tried-requires-in-None : goal.active_drives-tried-requires-in-None
active_drives-tried-requires-in-None g c =
    subst AreNumbered (ap (λ (s : Option (List Seat)). seats_then s c.args.store.now.seats) c.in-None.is ∙ sym c.seats.ensures) (numbered (g.S.Shelf.sizes c.args.shelf.now) (seats_then c.args.hand.seats c.args.store.now.seats) c.requires.few c.requires.laid)

pub active_drives-requires : goal.active_drives-requires
active_drives-requires g c =
    let all = seats_then c.args.hand.seats c.args.store.now.seats in
    subst AreNumbered (sym c.seats-2.ensures)
    (small_now g.S.Shelf c.args.shelf.now c.list_both.new.shelf (listed_by c.args.store.now c.args.lists all) c.list_both.new.self c.list_both.result c.list_both.ensures c.requires.few c.requires.laid)

pub returns-clause-lost : goal.returns-clause-lost
returns-clause-lost g c =
    let o = c.args.store.now in
    let all = seats_then c.args.hand.seats o.seats in
    listed_lost g.S.Shelf c.args.shelf.now c.list_both.new.shelf (listed_by o c.args.lists all) c.list_both.new.self c.list_both.result c.list_both.ensures c.requires.few c.requires.laid c.match-seats.tried c.active_drives.result c.args.lost.now c.leave.new.lost
    (elim c.match-seats.branch [
      | in-Some w ↦ subst (λ (ds : Drives). AreDrivesOf ds all) (sym w.tried-is)
          (subst (AreDrivesOf w.active_drives-tried.result) (w.as_slice.ensures ∙ sym (ap (λ (s : Option (List Seat)). seats_then s o.seats) w.in-Some.is)) w.active_drives-tried.ensures)
      | in-None w ↦ subst (λ (ds : Drives). AreDrivesOf ds all) (sym w.tried-is)
          (subst (AreDrivesOf w.active_drives-tried-in-None.result) (w.seats.ensures ∙ sym (ap (λ (s : Option (List Seat)). seats_then s o.seats) w.in-None.is)) w.active_drives-tried-in-None.ensures)
    ])
    (subst (AreDrivesOf c.active_drives.result) c.seats-2.ensures c.active_drives.ensures) c.requires.apart c.leave.ensures
