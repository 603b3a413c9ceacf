-- On which drives a change of places works, and that nothing is done behind a failed call till the wipes begin.
use Rattle.std.proofs.Common.{◌≡◌, ℕ, List, ◌++◌, map, Contains, Ok, sym, ◌∙◌, ap, subst, arith}
use Rattle.std.proofs.lemmas.List.Elements.{Contains-append_right}
use Rattle.mdv_acts.proofs.Acting.{among_more}
use Rattle.mdv_acts.specs.Acts.{HaveGone}
use Rattle.mdv_look.proofs.Among.{among_calm}
use Rattle.mdv_shelf.proofs.Among.{among_wider}
use Rattle.mdv_shelf.specs.Drives.{KeptAmong}
use Rattle.mdv_shelf.specs.Shelves.{DriveFailures}
use Rattle.mdv_store.proofs.Marks.{slot_stays}
use Rattle.mdv_store.proofs.Passes.{left_calm, mapped, unmapped}
use Rattle.mdv_store.proofs.Relisting.{replicas_in}
use Rattle.mdv_store.proofs.Seated.{replicas_have}
use Rattle.mdv_store.proofs.Sitting.{replica_of, seat_of}
use Rattle.mdv_store.specs.Create.{replica_on}
use Rattle.mdv_store.specs.Listing.{WasListed, last_by, seats_in}
use Rattle.mdv_store.specs.Seats.{drive_of}
use Rattle.mdv_store.specs.Writing.{text_size}
use Rattle.mdv_places.specs.Asked.{Adds, AreAskedOn, Asks, Drops, KeepsFirst, acts_moved, claimed, claims, drives_added, seats_added}
use Rattle.mdv_places.specs.Below.{DriveNo, Ghosts, Opened, Place, Replica, Seat, SliceLine, TakesSlot, drives_of, last_of, next_mark, replicas_of, seats_asked}
use Rattle.mdv_places.specs.Changing.{both_of}
use Rattle.mdv_places.proofs.Losing.{drive_under}

-- a replica has one with the claim
claims_have : (number : ℕ) (seats : List Seat) (r : Replica) → Contains (replicas_of seats) r → Contains (replicas_of (map (claims number) seats)) (record r { head = record r.head { claim = number } })
claims_have number seats r has = (let s = seat_of seats r has in replica_of (map (claims number) seats) (claims number s.0) (record r { head = record r.head { claim = number } }) (mapped (claims number) seats s.0 s.1) (ap (claimed number) s.2))

module _ (sizes : List ℕ) (o : Opened) where
  -- each slice that gets more has a replica that is added
  added_on : (m : Asks) → AreAskedOn sizes m → (drive : DriveNo) → Contains (drives_added m) drive → Contains (drives_of (seats_added o m)) drive
  added_on (Adds lines count blocks) asked drive has =
      let line = unmapped (λ (l : SliceLine). l.at.drive) lines drive has in
      let one = replicas_have o.key o.identity count blocks lines line.0 0 line.1 (let more = asked.more in omega (arith, more)) in
      let r = replica_on o.key o.identity line.0 count blocks 0 in
      let its = claims_have o.mark.boot (seats_asked o.key o.identity lines count blocks) r one in
      subst (Contains (drives_of (seats_added o (Adds lines count blocks)))) line.2 (mapped drive_under (replicas_of (seats_added o (Adds lines count blocks))) (record r { head = record r.head { claim = o.mark.boot } }) its)
  added_on (Drops slices) asked drive has = has
  added_on KeepsFirst asked drive has = has

  pub added_within : (m : Asks) → AreAskedOn sizes m → (drive : DriveNo) → Contains (drives_added m) drive → Contains (drives_of (o.seats ++ seats_added o m)) drive
  added_within m asked drive has =
      let r = unmapped drive_under (replicas_of (seats_added o m)) drive (added_on m asked drive has) in
      let s = seat_of (seats_added o m) r.0 r.1 in
      subst (Contains (drives_of (o.seats ++ seats_added o m))) r.2 (mapped drive_under (replicas_of (o.seats ++ seats_added o m)) r.0 (replica_of (o.seats ++ seats_added o m) s.0 r.0 (Contains-append_right o.seats (seats_added o m) s.0 s.1) s.2))

module _ {S : Type 0} (shelf : Ghosts S) (from formed both last : S) (sizes : List ℕ) (o between now : Opened) (asked : Asks) (may : AreAskedOn sizes asked) (gone : HaveGone shelf from formed (drives_added asked) (acts_moved o asked)) where
  abbrev seats : List Seat
  seats = o.seats ++ seats_added o asked

  formed_kept : KeptAmong shelf from formed (drives_of seats)
  formed_kept = among_wider shelf from formed (drives_added asked) (drives_of seats) (added_within sizes o asked may) gone.kept

  -- behind the record with both lists
  pub listed_kept : (result : _) → WasListed shelf formed both (both_of o asked) between result → KeptAmong shelf from both (drives_of seats)
  listed_kept result first = among_more shelf from formed both (drives_of seats) gone.calm formed_kept first.wrote.kept

  module _ (first : WasListed shelf formed both (both_of o asked) between (Ok tt)) where
    abbrev list : List Place
    list = last_of between.table.plan.lists

    abbrev Takes : Replica → Replica → Type 0
    Takes = TakesSlot (next_mark o.mark) (text_size (both_of o asked).table)

    -- a replica that is written again was written, and no call on its drive failed
    was : (m : Replica) → Contains (replicas_of (seats_in list between.seats)) m → (r : Replica) × Contains (replicas_of seats) r × (DriveFailures shelf formed both (drive_of r)).none × Takes r m
    was m has = left_calm (DriveFailures shelf formed both) Takes seats between.seats first.wrote.left m (replicas_in list between.seats m has)

    pub on_drive : (drive : DriveNo) → Contains (drives_of (seats_in list between.seats)) drive → (r : Replica) × Contains (replicas_of seats) r × (drive_under r ≡ drive) × (DriveFailures shelf formed both drive.0).none
    on_drive drive has =
        let m = unmapped drive_under (replicas_of (seats_in list between.seats)) drive has in
        let r = was m.0 m.1 in
        let same : drive_under r.0 ≡ drive = sym (ap (λ a. a.drive) (slot_stays (next_mark o.mark) (text_size (both_of o asked).table) r.0 m.0 r.3)) ∙ m.2 in
        (r.0, r.1, same, subst (λ (d : DriveNo). (DriveFailures shelf formed both d.0).none) same r.2)

    pub settled_kept : (result : _) → WasListed shelf both last (last_by between) now result → KeptAmong shelf from last (drives_of seats)
    settled_kept result second =
        among_calm shelf from both last (drives_of seats) (drives_of (seats_in list between.seats))
        (λ drive has. (let r = on_drive drive has in subst (Contains (drives_of seats)) r.2 (mapped drive_under (replicas_of seats) r.0 r.1)))
        (λ drive has. (let r = on_drive drive has in r.3 ∙ gone.calm drive.0))
        (listed_kept (Ok tt) first) second.wrote.kept
