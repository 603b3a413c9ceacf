use Rattle.std.proofs.Common.{List, Contains, sym, ◌∙◌, ap, subst}
use Rattle.mdv_store.proofs.Passes.{unmapped}
use Rattle.mdv_store.proofs.Relisting.{laid_in, replicas_in}
use Rattle.mdv_store.specs.Listing.{last_by, seats_in}
use Rattle.mdv_places.specs.Below.{Place, Seat, Table, drives_of, last_of, replicas_of}
use Rattle.mdv_places.specs.Losing.{AreDrivesOf, AreNumbered}
use Rattle.mdv_places.proofs.Losing.{drive_in, drive_under, listed_lost, numbered, small_now}
use Rattle.mdv_places.proofs.listing.list_last.Goals as goal

pub listed_drives-tried-requires : goal.listed_drives-tried-requires
listed_drives-tried-requires g c = subst AreNumbered (sym c.seats.ensures) (numbered (g.S.Shelf.sizes c.args.shelf.now) c.args.store.now.seats c.requires.few c.requires.laid)

pub active_drives-requires : goal.active_drives-requires
active_drives-requires g c =
    let o = c.args.store.now in
    let sizes = g.S.Shelf.sizes c.args.shelf.now in
    subst AreNumbered (sym c.seats-2.ensures)
    (small_now g.S.Shelf c.args.shelf.now c.list_last.new.shelf (last_by o) c.list_last.new.self c.list_last.result c.list_last.ensures c.requires.few (laid_in (last_of o.table.plan.lists) o.seats sizes c.requires.laid))

pub returns-clause-lost : goal.returns-clause-lost
returns-clause-lost g c =
    let o = c.args.store.now in
    let sizes = g.S.Shelf.sizes c.args.shelf.now in
    let list = last_of o.table.plan.lists in
    let list_is = c.last_of.ensures.value ∙ ap (λ (t : Table). last_of t.plan.lists) c.table.ensures in
    listed_lost g.S.Shelf c.args.shelf.now c.list_last.new.shelf (last_by o) c.list_last.new.self c.list_last.result c.list_last.ensures c.requires.few (laid_in list o.seats sizes c.requires.laid) c.listed_drives-tried.result c.active_drives.result c.args.lost.now
    c.leave.new.lost (subst (λ (ss : List Seat). AreDrivesOf c.listed_drives-tried.result (seats_in list ss)) c.seats.ensures (subst (λ (l : List Place). AreDrivesOf c.listed_drives-tried.result (seats_in l c.seats.result.now)) list_is c.listed_drives-tried.ensures))
    (subst (AreDrivesOf c.active_drives.result) c.seats-2.ensures c.active_drives.ensures)
    (λ d has. (let r = unmapped drive_under (replicas_of (seats_in list o.seats)) d has in c.requires.apart d (subst (Contains (drives_of o.seats)) r.2 (drive_in o.seats r.0 (replicas_in list o.seats r.0 r.1))))) c.leave.ensures
