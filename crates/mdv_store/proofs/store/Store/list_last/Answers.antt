use Rattle.std.proofs.Common.{◌≡◌, ◌≤◌, ◌∙◌, List, Contains, Err, ap, arith, refl, subst, sym}
use Rattle.mdv_encoding.specs.Room.{least_slot_bytes}
use Rattle.mdv_shelf.specs.Shelves.{DriveFailures}
use Rattle.mdv_store.specs.Below.{HasNoneAbove, Mark, One, Place, Replica, last_of, places_of}
use Rattle.mdv_store.specs.Commit.{next_mark}
use Rattle.mdv_store.specs.Listing.{IsLast, WasListed, last_by, seats_in, with_lists}
use Rattle.mdv_store.specs.Opened.{AreSeatsOf, IsOpen, Opened, least_room}
use Rattle.mdv_store.specs.Seats.{AreLaid, AreLeft, TakesSlot, replicas_of}
use Rattle.mdv_store.specs.Settled.{first_room}
use Rattle.mdv_store.specs.Shares.{short_of}
use Rattle.mdv_store.specs.Writing.{WroteAll, text_size}
use Rattle.mdv_store.specs.declared.seats.Need.TheVariants.{Half}
use Rattle.mdv_store.specs.declared.seats.Seat.{Seat}
use Rattle.mdv_store.specs.declared.store.Store.TheInside.{Inside}
use Rattle.mdv_store.proofs.Relisting.{laid_in, last_seats, last_whole, listed_open, listing_room, replicas_in, unlisted_open}
use Rattle.mdv_store.proofs.Texts.{text_some}
use Rattle.mdv_store.proofs.store.Store.list_last.Goals as goal
use Rattle.mdv_store.proofs.store.Store.list_last.Goals.{After-deref_mut, After-write_all}

abbrev fields : Inside → Opened
fields s = record { key = s.key; identity = s.identity; mark = s.mark; table = s.table; seats = s.seats }

abbrev was : (g : _) → After-deref_mut g → Opened
was g c = fields c.self.inside

last : (g : _) (c : After-deref_mut g) → IsLast (was g c)
last g c = subst IsLast (sym c.self.view_is) c.requires.last

list_is : (g : _) (c : After-deref_mut g) → c.copy_of-list.result ≡ last_of c.self.inside.table.plan.lists
list_is g c = c.copy_of-list.ensures ∙ c.last_of.ensures.value

seats_are : (g : _) (c : After-deref_mut g) → c.keep_listed.new.seats ≡ seats_in (last_of c.self.inside.table.plan.lists) c.self.inside.seats
seats_are g c = c.keep_listed.ensures ∙ ap (λ (l : List Place). seats_in l c.self.inside.seats) (c.as_slice.ensures ∙ list_is g c)

-- the open database as it is about to be written
abbrev before : (g : _) → After-deref_mut g → Opened
before g c = record (was g c) { table = with_lists c.self.inside.table (One c.copy_of-list.result); seats = c.keep_listed.new.seats }

before_is : (g : _) (c : After-deref_mut g) → before g c ≡ last_by (was g c)
before_is g c =
    let list = list_is g c in
    let seats = seats_are g c in
    λ i. record (was g c) { table = with_lists c.self.inside.table (One (list i)); seats = seats i }

are : (g : _) (c : After-deref_mut g) → AreSeatsOf (before g c).table (before g c).seats
are g c = subst (λ (o : Opened). AreSeatsOf o.table o.seats) (sym (before_is g c)) (last_seats (was g c) c.self.invariant.seats (last g c))

fits : (g : _) (c : After-deref_mut g) → text_size (before g c).table ≤ least_slot_bytes (places_of (before g c).table.plan.lists)
fits g c = subst (λ (o : Opened). text_size o.table ≤ least_slot_bytes (places_of o.table.plan.lists)) (sym (before_is g c)) (last g c).fits

above : (g : _) (c : After-deref_mut g) (r : Replica) → Contains (replicas_of (before g c).seats) r → HasNoneAbove (before g c).mark r.head
above g c = subst (λ (o : Opened). (r : Replica) → Contains (replicas_of o.seats) r → HasNoneAbove o.mark r.head) (sym (before_is g c))
    (λ r has. c.self.invariant.marks (last g c).half r (replicas_in (last_of c.self.inside.table.plan.lists) c.self.inside.seats r has))

first : (g : _) (c : After-deref_mut g) → first_room (last_of (before g c).table.plan.lists) ≤ c.self.inside.room.len
first g c = subst (λ (o : Opened). first_room (last_of o.table.plan.lists) ≤ c.self.inside.room.len) (sym (before_is g c)) c.self.invariant.first

whole : (g : _) (c : After-deref_mut g) → least_room (places_of (before g c).table.plan.lists) ≤ c.self.inside.room.len
whole g c = subst (λ (o : Opened). least_room (places_of o.table.plan.lists) ≤ c.self.inside.room.len) (sym (before_is g c)) (last_whole (was g c) c.self.invariant.seats (last g c) c.self.inside.room.len c.self.invariant.first)

pub write_all-requires-clause-laid : goal.write_all-requires-clause-laid
write_all-requires-clause-laid g c =
    subst (λ (o : Opened). AreLaid (g.S.Shelf.sizes c.args.shelf.now) o.seats) (sym (before_is g c))
    (laid_in (last_of c.self.inside.table.plan.lists) c.self.inside.seats (g.S.Shelf.sizes c.args.shelf.now) (subst (λ (o : Opened). AreLaid (g.S.Shelf.sizes c.args.shelf.now) o.seats) (sym c.self.view_is) c.requires.laid))

pub write_all-requires-clause-in_seats : goal.write_all-requires-clause-in_seats
write_all-requires-clause-in_seats g c = listing_room (before g c) (are g c) (fits g c)

pub write_all-requires-clause-in_room : goal.write_all-requires-clause-in_room
write_all-requires-clause-in_room g c = (let text = fits g c in let room = whole g c in omega (arith, text, room, c.deref_mut.ensures.len))

pub write_all-requires-clause-some : goal.write_all-requires-clause-some
write_all-requires-clause-some g c = (let text = fits g c in let room = whole g c in omega (arith, text, room, text_some (before g c).table, c.deref_mut.ensures.len))

mark_is : (g : _) (c : After-write_all g) → c.after-mark.result ≡ next_mark c.self.inside.mark
mark_is g c = c.after-mark.ensures

left : (g : _) (c : After-write_all g) → AreLeft (DriveFailures g.S.Shelf c.args.shelf.now c.write_all.new.shelf) (TakesSlot (next_mark c.self.inside.mark) (text_size (with_lists c.self.inside.table (One c.copy_of-list.result)))) c.keep_listed.new.seats c.write_all.new.seats
left g c =
    subst (λ (m : Mark). AreLeft (DriveFailures g.S.Shelf c.args.shelf.now c.write_all.new.shelf) (TakesSlot m (text_size (with_lists c.self.inside.table (One c.copy_of-list.result)))) c.keep_listed.new.seats c.write_all.new.seats)
    (mark_is g c) c.write_all.ensures.left

pub invariant_of-self : goal.invariant_of-self
invariant_of-self g c =
    let w = (goal.at.invariant_of-self g c).After-write_all in
    let d = (goal.at.invariant_of-self g c).After-deref_mut in
    let few = ap (λ (l : List Seat). short_of Half l (One c.copy_of-list.result)) (sym c.as_slice-2.ensures) ∙ sym c.in-Some.ensures in
    unlisted_open (before g d) (are g d) (fits g d) (above g d) c.self.invariant.boot (last g d).small c.self.inside.room.len (whole g d) (first g d) c.self.invariant.short
    (DriveFailures g.S.Shelf c.args.shelf.now c.write_all.new.shelf) c.write_all.new.seats (left g w) c.in-Some.share few

wrote : (g : _) (c : After-write_all g) → WroteAll g.S.Shelf (next_mark c.self.inside.mark) (with_lists c.self.inside.table (One c.copy_of-list.result)) c.args.shelf.now c.write_all.new.shelf c.keep_listed.new.seats c.write_all.new.seats
wrote g c =
    subst (λ (m : Mark). WroteAll g.S.Shelf m (with_lists c.self.inside.table (One c.copy_of-list.result)) c.args.shelf.now c.write_all.new.shelf c.keep_listed.new.seats c.write_all.new.seats) (mark_is g c)
    (record { left = c.write_all.ensures.left; moments = c.write_all.ensures.moments; ends = c.write_all.ensures.end; passed = c.write_all.ensures.passed; kept = c.write_all.ensures.kept })

pub returns-in-Some : goal.returns-in-Some
returns-in-Some g c =
    let w = (goal.at.returns-in-Some g c).After-write_all in
    let d = (goal.at.returns-in-Some g c).After-deref_mut in
    let few = ap (λ (l : List Seat). short_of Half l (One c.copy_of-list.result)) (sym c.as_slice-2.ensures) ∙ sym c.in-Some.ensures in
    let now : Opened = record (before g d) { seats = c.write_all.new.seats } in
    subst (λ (o : Opened). WasListed g.S.Shelf c.args.shelf.now c.write_all.new.shelf o now (Err c.in-Some.share)) (before_is g d ∙ ap last_by c.self.view_is) (record { wrote = wrote g w; came = (few, refl) })

pub invariant_of-self-2 : goal.invariant_of-self-2
invariant_of-self-2 g c =
    let w = (goal.at.invariant_of-self-2 g c).After-write_all in
    let d = (goal.at.invariant_of-self-2 g c).After-deref_mut in
    subst (λ (m : Mark). IsOpen (record (before g d) { mark = m; seats = c.write_all.new.seats }) c.self.inside.room.len) (sym (mark_is g w))
    (listed_open (before g d) (are g d) (fits g d) (above g d) c.self.invariant.boot (last g d).small c.self.inside.room.len (whole g d) (first g d) c.self.invariant.short
    (DriveFailures g.S.Shelf c.args.shelf.now c.write_all.new.shelf) c.write_all.new.seats (left g w))
