use Rattle.std.proofs.Common.{◌≡◌, ◌≤◌, ◌<◌, ◌+◌, ◌^◌, ◌∙◌, List, [], Ok, Err, MatchOption, Contains, Option, ap, arith, refl, subst, sym, vec_len}
use Rattle.mdv_encoding.specs.Room.{least_slot_bytes}
use Rattle.mdv_shelf.specs.Shelves.{DriveFailures}
use Rattle.mdv_store.specs.Below.{HasNoneAbove, Mark, Replica, last_of, places_of}
use Rattle.mdv_store.specs.Commit.{next_mark}
use Rattle.mdv_store.specs.Listing.{IsRoomFor, IsRoomy, WasListed, listed_by, seats_then, with_lists}
use Rattle.mdv_store.specs.Opened.{AreSeatsOf, IsOpen, Opened, least_room}
use Rattle.mdv_store.specs.Seats.{AreLaid, replicas_of}
use Rattle.mdv_store.specs.Settled.{first_room}
use Rattle.mdv_store.specs.Shares.{short_of}
use Rattle.mdv_store.specs.Writing.{WroteAll, text_size}
use Rattle.mdv_store.specs.declared.seats.Need.TheVariants.{Half}
use Rattle.mdv_store.specs.declared.seats.Seat.{Seat}
use Rattle.mdv_store.specs.declared.store.Store.TheInside.{Inside}
use Rattle.mdv_store.proofs.Relisting.{listed_open, listing_room, room_first, unlisted_open}
use Rattle.mdv_store.proofs.Texts.{text_some}
use Rattle.mdv_store.proofs.store.Store.list_both.Goals as goal
use Rattle.mdv_store.proofs.store.Store.list_both.Goals.{After-deref_mut, After-write_all, in-Some, in_default, in-Some-room, in_default-room}

-- the store as it is, and without its seats
abbrev fields : Inside → Opened
fields s = record { key = s.key; identity = s.identity; mark = s.mark; table = s.table; seats = s.seats }

abbrev rest : Inside → Opened
rest s = record (fields s) { seats = [] }

rest_between : (g : _) (c : After-deref_mut g) → rest c.match-seats.self-inside ≡ rest c.self.inside
rest_between g c = elim c.match-seats.branch [
  | in-Some w ↦ ap rest w.self-inside-is
  | in_default w ↦ ap rest w.self-inside-is
]

rest_is : (g : _) (c : After-deref_mut g) → rest c.match-room.self-inside ≡ rest c.self.inside
rest_is g c = elim c.match-room.branch [
  | in-Some-room w ↦ ap rest w.self-inside-is ∙ rest_between g c
  | in_default-room w ↦ ap rest w.self-inside-is ∙ rest_between g c
]

seats_between : (g : _) (c : After-deref_mut g) → c.match-seats.self-inside.seats ≡ seats_then c.args.seats c.self.inside.seats
seats_between g c = elim c.match-seats.branch [
  | in-Some w ↦ ap (λ (s : Inside). s.seats) w.self-inside-is ∙ ap (λ (o : Option (List Seat)). seats_then o c.self.inside.seats) (sym w.in-Some.is)
  | in_default w ↦ ap (λ (s : Inside). s.seats) w.self-inside-is ∙ ap (λ (o : Option (List Seat)). seats_then o c.self.inside.seats) (sym w.in_default.is)
]

seats_are : (g : _) (c : After-deref_mut g) → c.match-room.self-inside.seats ≡ seats_then c.args.seats c.self.inside.seats
seats_are g c = elim c.match-room.branch [
  | in-Some-room w ↦ ap (λ (s : Inside). s.seats) w.self-inside-is ∙ seats_between g c
  | in_default-room w ↦ ap (λ (s : Inside). s.seats) w.self-inside-is ∙ seats_between g c
]

-- the open database as it is about to be written
abbrev before : (g : _) → After-deref_mut g → Opened
before g c = record (fields c.match-room.self-inside) { table = with_lists c.match-room.self-inside.table c.args.lists }

abbrev asked : (g : _) → After-deref_mut g → Opened
asked g c = listed_by c.args.self.now c.args.lists (seats_then c.args.seats c.args.self.now.seats)

before_is : (g : _) (c : After-deref_mut g) → before g c ≡ asked g c
before_is g c =
    let rest_same = rest_is g c in
    let seats_same = seats_are g c in
    (λ i. record (rest_same i) { table = with_lists (rest_same i).table c.args.lists; seats = seats_same i })
    ∙ ap (λ (o : Opened). listed_by o c.args.lists (seats_then c.args.seats o.seats)) c.self.view_is

are : (g : _) (c : After-deref_mut g) → AreSeatsOf (before g c).table (before g c).seats
are g c = subst (λ (o : Opened). AreSeatsOf o.table o.seats) (sym (before_is g c)) c.requires.second.of

fits : (g : _) (c : After-deref_mut g) → text_size (before g c).table ≤ least_slot_bytes (places_of c.args.lists)
fits g c = subst (λ (o : Opened). text_size o.table ≤ least_slot_bytes (places_of c.args.lists)) (sym (before_is g c)) c.requires.second.may.fits

above : (g : _) (c : After-deref_mut g) (r : Replica) → Contains (replicas_of (before g c).seats) r → HasNoneAbove (before g c).mark r.head
above g c = subst (λ (o : Opened). (r : Replica) → Contains (replicas_of o.seats) r → HasNoneAbove o.mark r.head) (sym (before_is g c)) c.requires.second.marks

boot : (g : _) (c : After-deref_mut g) → (before g c).mark.boot < 2 ^ 63
boot g c = subst (λ (o : Opened). o.mark.boot < 2 ^ 63) (sym (rest_is g c)) c.self.invariant.boot

small : (g : _) (c : After-deref_mut g) → (before g c).mark.count + 1 < 2 ^ 63
small g c = (let two = subst (λ (o : Opened). o.mark.count + 2 < 2 ^ 63) (sym (before_is g c)) c.requires.second.may.small in omega (arith, two))

-- there is room
room_between : (g : _) (c : After-deref_mut g) → c.match-seats.self-inside.room ≡ c.self.inside.room
room_between g c = elim c.match-seats.branch [
  | in-Some w ↦ ap (λ (s : Inside). s.room) w.self-inside-is
  | in_default w ↦ ap (λ (s : Inside). s.room) w.self-inside-is
]

room_for : (g : _) (c : After-deref_mut g) → IsRoomFor c.args.lists c.match-room.self-inside.room.len
room_for g c = elim c.match-room.branch [
  | in-Some-room w ↦
      subst (λ (v : _). IsRoomFor c.args.lists (vec_len v)) (sym (ap (λ (s : Inside). s.room) w.self-inside-is))
      (subst (λ (o : _). MatchOption o (IsRoomy c.args.self.now c.args.lists) (λ (r : _). IsRoomFor c.args.lists (vec_len r))) w.in-Some-room.is c.requires.room)
  | in_default-room w ↦
      let same = ap (λ (s : Inside). s.room) w.self-inside-is ∙ room_between g c in
      let roomy = subst (λ (o : _). MatchOption o (IsRoomy c.args.self.now c.args.lists) (λ (r : _). IsRoomFor c.args.lists (vec_len r))) w.in_default-room.is c.requires.room in
      let first = subst (λ (o : Opened). first_room (last_of o.table.plan.lists) ≤ c.self.inside.room.len) c.self.view_is c.self.invariant.first in
      let whole = subst (λ (o : Opened). least_room (places_of o.table.plan.lists) ≤ c.self.inside.room.len) c.self.view_is c.self.invariant.whole in
      subst (λ (v : _). IsRoomFor c.args.lists (vec_len v)) (sym same)
      (room_first c.args.self.now c.args.lists _ c.requires.second c.self.inside.room.len whole first c.self.invariant.short roomy)
]

pub write_all-requires-clause-laid : goal.write_all-requires-clause-laid
write_all-requires-clause-laid g c = subst (λ (o : Opened). AreLaid (g.S.Shelf.sizes c.args.shelf.now) o.seats) (sym (before_is g c)) c.requires.laid

pub write_all-requires-clause-in_seats : goal.write_all-requires-clause-in_seats
write_all-requires-clause-in_seats g c = listing_room (before g c) (are g c) (fits g c)

pub write_all-requires-clause-in_room : goal.write_all-requires-clause-in_room
write_all-requires-clause-in_room g c = (let text = fits g c in let room = (room_for g c).enough in omega (arith, text, room, c.deref_mut.ensures.len))

pub write_all-requires-clause-some : goal.write_all-requires-clause-some
write_all-requires-clause-some g c = (let text = fits g c in let room = (room_for g c).enough in omega (arith, text, room, text_some (before g c).table, c.deref_mut.ensures.len))

-- what was written
mark_is : (g : _) (c : After-write_all g) → c.after-mark.result ≡ next_mark c.match-room.self-inside.mark
mark_is g c = c.after-mark.ensures

wrote : (g : _) (c : After-write_all g) → WroteAll g.S.Shelf (next_mark c.match-room.self-inside.mark) (with_lists c.match-room.self-inside.table c.args.lists) c.args.shelf.now c.write_all.new.shelf c.match-room.self-inside.seats c.write_all.new.seats
wrote g c =
    subst (λ (m : Mark). WroteAll g.S.Shelf m (with_lists c.match-room.self-inside.table c.args.lists) c.args.shelf.now c.write_all.new.shelf c.match-room.self-inside.seats c.write_all.new.seats) (mark_is g c)
    (record { left = c.write_all.ensures.left; moments = c.write_all.ensures.moments; ends = c.write_all.ensures.end; passed = c.write_all.ensures.passed; kept = c.write_all.ensures.kept })

pub invariant_of-self : goal.invariant_of-self
invariant_of-self g c =
    let w = (goal.at.invariant_of-self g c).After-write_all in
    let d = (goal.at.invariant_of-self g c).After-deref_mut in
    let few = ap (λ (l : List Seat). short_of Half l c.args.lists) (sym c.as_slice.ensures) ∙ sym c.in-Some-short.ensures in
    let most = (room_for g d).enough in
    unlisted_open (before g d) (are g d) (fits g d) (above g d) (boot g d) (small g d) c.match-room.self-inside.room.len (omega (arith, most)) (omega (arith, most)) (room_for g d).short
    (DriveFailures g.S.Shelf c.args.shelf.now c.write_all.new.shelf) c.write_all.new.seats (wrote g w).left c.in-Some-short.share few

pub returns-in-Some-short : goal.returns-in-Some-short
returns-in-Some-short g c =
    let w = (goal.at.returns-in-Some-short g c).After-write_all in
    let d = (goal.at.returns-in-Some-short g c).After-deref_mut in
    let few = ap (λ (l : List Seat). short_of Half l c.args.lists) (sym c.as_slice.ensures) ∙ sym c.in-Some-short.ensures in
    let now : Opened = record (before g d) { seats = c.write_all.new.seats } in
    subst (λ (o : Opened). WasListed g.S.Shelf c.args.shelf.now c.write_all.new.shelf o now (Err c.in-Some-short.share)) (before_is g d) (record { wrote = wrote g w; came = (few, refl) })

pub invariant_of-self-2 : goal.invariant_of-self-2
invariant_of-self-2 g c =
    let w = (goal.at.invariant_of-self-2 g c).After-write_all in
    let d = (goal.at.invariant_of-self-2 g c).After-deref_mut in
    let most = (room_for g d).enough in
    subst (λ (m : Mark). IsOpen (record (before g d) { mark = m; seats = c.write_all.new.seats }) c.match-room.self-inside.room.len) (sym (mark_is g w))
    (listed_open (before g d) (are g d) (fits g d) (above g d) (boot g d) (small g d) c.match-room.self-inside.room.len (omega (arith, most)) (omega (arith, most)) (room_for g d).short
    (DriveFailures g.S.Shelf c.args.shelf.now c.write_all.new.shelf) c.write_all.new.seats (wrote g w).left)

pub returns : goal.returns
returns g c =
    let w = (goal.at.returns g c).After-write_all in
    let d = (goal.at.returns g c).After-deref_mut in
    let enough = ap (λ (l : List Seat). short_of Half l c.args.lists) (sym c.as_slice.ensures) ∙ sym c.short.ensures ∙ c.in_default-short.is in
    let now : Opened = record (before g d) { mark = c.after-mark.result; seats = c.write_all.new.seats } in
    subst (λ (o : Opened). WasListed g.S.Shelf c.args.shelf.now c.write_all.new.shelf o now (Ok tt)) (before_is g d)
    (record { wrote = wrote g w; came = (enough, (λ i. record (before g d) { mark = mark_is g w i; seats = c.write_all.new.seats })) })
