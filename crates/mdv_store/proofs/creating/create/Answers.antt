use Rattle.std.proofs.Common.{◌≡◌, ◌≤◌, ◌+◌, ◌*◌, ◌++◌, ℕ, List, Ok, Err, length, map, refl, sym, ◌∙◌, ap, subst, arith}
use Rattle.std.proofs.lemmas.Result.{err_from_is_err_and}
use Rattle.mdv_shelf.specs.Drives.{KeptAmong}
use Rattle.mdv_shelf.specs.Shelves.{AtEachTale, AtEnd, DriveFailures}
use Rattle.mdv_standing.specs.Creating.{first_mark}
use Rattle.mdv_acts.specs.Acts.{HaveGone, HaveStopped, blanks_asked, forms_asked}
use Rattle.mdv_store.specs.Below.{Table, record_bytes}
use Rattle.mdv_store.specs.Counts.{ArePassCounted}
use Rattle.mdv_acts.specs.Asked.{drives_asked}
use Rattle.mdv_store.specs.Create.{CreateEnds, IsCreated, IsCreationCounted, seats_asked, table_of}
use Rattle.mdv_store.specs.Opened.{IsOpen, least_room}
use Rattle.mdv_store.specs.Seats.{AreLaid, AreLeft, HaveRoom, TakesSlot, drives_of}
use Rattle.mdv_store.specs.Shares.{short_of}
use Rattle.mdv_store.specs.declared.seats.Need.TheVariants.{Half}
use Rattle.mdv_store.specs.Text.{blocks_for}
use Rattle.mdv_store.specs.Writing.{WereWritten, WritingEnds, WritingMoment, text_size}
use Rattle.mdv_store.specs.declared.creating.CreateFault.{CreateFault}
use Rattle.mdv_store.specs.declared.seats.Seat.{Seat}
use Rattle.mdv_store.specs.Listing.{list_room}
use Rattle.mdv_acts.proofs.Acting.{gone_then, stopped_front, stopped_then}
use Rattle.mdv_store.proofs.Given.{IsOwner}
use Rattle.mdv_store.proofs.Making.{all_kept, lost_counted, lost_created, lost_end, made_counted, made_created, made_end, made_open, memory_created, memory_moments, stopped_counted, stopped_created, stopped_end, stopped_moments, written_moments}
use Rattle.mdv_encoding.proofs.Rooms.{room_most}
use Rattle.mdv_store.proofs.Seated.{room_asked, room_for_text, seats_laid, text_asked}
use Rattle.mdv_store.proofs.Spotting.{asked_length}
use Rattle.mdv_store.proofs.creating.create.Goals as goal
use Rattle.mdv_store.proofs.creating.create.Goals.{After-check_owner, After-clear_all, After-format_all, After-deref_mut}
use Rattle.mdv_store.proofs.Rooms.{first_most}

owner : (g : _) (c : After-check_owner g) → IsOwner c.args.key.now c.args.identity
owner g c = record { fresh = c.check_owner.ensures.fresh; number = c.check_owner.ensures.number; name = c.check_owner.ensures.name }

pub returns-in_err-seats-clause-answer : goal.returns-in_err-seats-clause-answer
returns-in_err-seats-clause-answer g c =
    let p = err_from_is_err_and c.from_residual.result c.from_residual.ensures.1 in
    rw (p.1, p.2) (memory_created g.S.Shelf c.args.key.now c.args.identity c.args.lines.now c.args.count c.args.blocks c.args.shelf.now c.requires.asked (owner g (goal.at.returns-in_err-seats-clause-answer g c).After-check_owner))

pub returns-in_err-seats-clause-moments : goal.returns-in_err-seats-clause-moments
returns-in_err-seats-clause-moments g c =
    memory_moments g.S.Shelf c.args.key.now c.args.identity c.args.lines.now c.args.count c.args.blocks c.args.shelf.now c.requires.asked (owner g (goal.at.returns-in_err-seats-clause-moments g c).After-check_owner)

pub returns-in_err-room-clause-answer : goal.returns-in_err-room-clause-answer
returns-in_err-room-clause-answer g c =
    let p = err_from_is_err_and c.from_residual-in_err-room.result c.from_residual-in_err-room.ensures.1 in
    rw (p.1, p.2) (memory_created g.S.Shelf c.args.key.now c.args.identity c.args.lines.now c.args.count c.args.blocks c.args.shelf.now c.requires.asked (owner g (goal.at.returns-in_err-room-clause-answer g c).After-check_owner))

pub returns-in_err-room-clause-moments : goal.returns-in_err-room-clause-moments
returns-in_err-room-clause-moments g c =
    memory_moments g.S.Shelf c.args.key.now c.args.identity c.args.lines.now c.args.count c.args.blocks c.args.shelf.now c.requires.asked (owner g (goal.at.returns-in_err-room-clause-moments g c).After-check_owner)

pub table_asked-table-requires : goal.table_asked-table-requires
table_asked-table-requires g c =
    subst (λ (l : List Seat). length l ≤ 50) (sym (c.as_slice.ensures ∙ c.in_ok-seats.ensures))
    (let few = c.requires.asked.few in omega (arith, asked_length c.args.key.now c.args.identity c.args.count c.args.blocks c.args.lines.now, few))

-- a call failed while masters were blanked
cleared : (g : _) (c : After-clear_all g) → HaveStopped g.S.Shelf c.args.shelf.now c.clear_all.new.shelf (drives_asked c.args.lines.now) (blanks_asked c.args.lines.now c.args.count c.args.blocks) → HaveStopped g.S.Shelf c.args.shelf.now c.clear_all.new.shelf (drives_asked c.args.lines.now) ((blanks_asked c.args.lines.now c.args.count c.args.blocks) ++ (forms_asked c.args.key.now c.args.identity 1 c.args.lines.now c.args.count c.args.blocks))
cleared g c stopped = stopped_front g.S.Shelf (drives_asked c.args.lines.now) (blanks_asked c.args.lines.now c.args.count c.args.blocks) (forms_asked c.args.key.now c.args.identity 1 c.args.lines.now c.args.count c.args.blocks) c.args.shelf.now c.clear_all.new.shelf stopped

pub returns-in_err-clear_all-clause-moments : goal.returns-in_err-clear_all-clause-moments
returns-in_err-clear_all-clause-moments g c = stopped_moments g.S.Shelf c.args.key.now c.args.identity c.args.lines.now c.args.count c.args.blocks c.args.shelf.now c.requires.asked (owner g (goal.at.returns-in_err-clear_all-clause-moments g c).After-check_owner) c.clear_all.new.shelf (cleared g (goal.at.returns-in_err-clear_all-clause-moments g c).After-clear_all c.in_err-clear_all.ensures.stopped)

pub returns-in_err-clear_all-clause-answer : goal.returns-in_err-clear_all-clause-answer
returns-in_err-clear_all-clause-answer g c =
    let p = err_from_is_err_and c.from_residual-in_err-clear_all.result c.from_residual-in_err-clear_all.ensures.1 in
    rw (p.1, p.2) (stopped_created g.S.Shelf c.args.key.now c.args.identity c.args.lines.now c.args.count c.args.blocks c.args.shelf.now c.requires.asked (owner g (goal.at.returns-in_err-clear_all-clause-answer g c).After-check_owner) c.clear_all.new.shelf (cleared g (goal.at.returns-in_err-clear_all-clause-answer g c).After-clear_all c.in_err-clear_all.ensures.stopped))

pub returns-in_err-clear_all-clause-end : goal.returns-in_err-clear_all-clause-end
returns-in_err-clear_all-clause-end g c =
    let p = err_from_is_err_and c.from_residual-in_err-clear_all.result c.from_residual-in_err-clear_all.ensures.1 in
    rw (p.1, p.2) (stopped_end g.S.Shelf c.args.key.now c.args.identity c.args.lines.now c.args.count c.args.blocks c.args.shelf.now c.requires.asked (owner g (goal.at.returns-in_err-clear_all-clause-end g c).After-check_owner) c.clear_all.new.shelf (cleared g (goal.at.returns-in_err-clear_all-clause-end g c).After-clear_all c.in_err-clear_all.ensures.stopped))

pub returns-in_err-clear_all-clause-counted : goal.returns-in_err-clear_all-clause-counted
returns-in_err-clear_all-clause-counted g c =
    let p = err_from_is_err_and c.from_residual-in_err-clear_all.result c.from_residual-in_err-clear_all.ensures.1 in
    rw (p.1, p.2) (stopped_counted g.S.Shelf c.args.key.now c.args.identity c.args.lines.now c.args.count c.args.blocks c.args.shelf.now c.requires.asked (owner g (goal.at.returns-in_err-clear_all-clause-counted g c).After-check_owner) c.clear_all.new.shelf (cleared g (goal.at.returns-in_err-clear_all-clause-counted g c).After-clear_all c.in_err-clear_all.ensures.stopped))

-- or while places were formatted
halted : (g : _) (c : After-format_all g) → HaveGone g.S.Shelf c.args.shelf.now c.clear_all.new.shelf (drives_asked c.args.lines.now) (blanks_asked c.args.lines.now c.args.count c.args.blocks) → HaveStopped g.S.Shelf c.clear_all.new.shelf c.format_all.new.shelf (drives_asked c.args.lines.now) (forms_asked c.args.key.now c.args.identity 1 c.args.lines.now c.args.count c.args.blocks)
    → HaveStopped g.S.Shelf c.args.shelf.now c.format_all.new.shelf (drives_asked c.args.lines.now) ((blanks_asked c.args.lines.now c.args.count c.args.blocks) ++ (forms_asked c.args.key.now c.args.identity 1 c.args.lines.now c.args.count c.args.blocks))
halted g c gone stopped = stopped_then g.S.Shelf (drives_asked c.args.lines.now) (blanks_asked c.args.lines.now c.args.count c.args.blocks) (forms_asked c.args.key.now c.args.identity 1 c.args.lines.now c.args.count c.args.blocks) c.args.shelf.now c.clear_all.new.shelf c.format_all.new.shelf gone stopped

pub returns-in_err-format_all-clause-moments : goal.returns-in_err-format_all-clause-moments
returns-in_err-format_all-clause-moments g c = stopped_moments g.S.Shelf c.args.key.now c.args.identity c.args.lines.now c.args.count c.args.blocks c.args.shelf.now c.requires.asked (owner g (goal.at.returns-in_err-format_all-clause-moments g c).After-check_owner) c.format_all.new.shelf (halted g (goal.at.returns-in_err-format_all-clause-moments g c).After-format_all c.in_ok-clear_all.ensures.gone c.in_err-format_all.ensures.stopped)

pub returns-in_err-format_all-clause-answer : goal.returns-in_err-format_all-clause-answer
returns-in_err-format_all-clause-answer g c =
    let p = err_from_is_err_and c.from_residual-in_err-format_all.result c.from_residual-in_err-format_all.ensures.1 in
    rw (p.1, p.2) (stopped_created g.S.Shelf c.args.key.now c.args.identity c.args.lines.now c.args.count c.args.blocks c.args.shelf.now c.requires.asked (owner g (goal.at.returns-in_err-format_all-clause-answer g c).After-check_owner) c.format_all.new.shelf (halted g (goal.at.returns-in_err-format_all-clause-answer g c).After-format_all c.in_ok-clear_all.ensures.gone c.in_err-format_all.ensures.stopped))

pub returns-in_err-format_all-clause-end : goal.returns-in_err-format_all-clause-end
returns-in_err-format_all-clause-end g c =
    let p = err_from_is_err_and c.from_residual-in_err-format_all.result c.from_residual-in_err-format_all.ensures.1 in
    rw (p.1, p.2) (stopped_end g.S.Shelf c.args.key.now c.args.identity c.args.lines.now c.args.count c.args.blocks c.args.shelf.now c.requires.asked (owner g (goal.at.returns-in_err-format_all-clause-end g c).After-check_owner) c.format_all.new.shelf (halted g (goal.at.returns-in_err-format_all-clause-end g c).After-format_all c.in_ok-clear_all.ensures.gone c.in_err-format_all.ensures.stopped))

pub returns-in_err-format_all-clause-counted : goal.returns-in_err-format_all-clause-counted
returns-in_err-format_all-clause-counted g c =
    let p = err_from_is_err_and c.from_residual-in_err-format_all.result c.from_residual-in_err-format_all.ensures.1 in
    rw (p.1, p.2) (stopped_counted g.S.Shelf c.args.key.now c.args.identity c.args.lines.now c.args.count c.args.blocks c.args.shelf.now c.requires.asked (owner g (goal.at.returns-in_err-format_all-clause-counted g c).After-check_owner) c.format_all.new.shelf (halted g (goal.at.returns-in_err-format_all-clause-counted g c).After-format_all c.in_ok-clear_all.ensures.gone c.in_err-format_all.ensures.stopped))

pub returns-in_err-format_all-clause-kept : goal.returns-in_err-format_all-clause-kept
returns-in_err-format_all-clause-kept g c = (halted g (goal.at.returns-in_err-format_all-clause-kept g c).After-format_all c.in_ok-clear_all.ensures.gone c.in_err-format_all.ensures.stopped).kept

-- The seats and the table are those that are asked.
abbrev seats : (g : _) → After-deref_mut g → List Seat
seats g c = seats_asked c.args.key.now c.args.identity c.args.lines.now c.args.count c.args.blocks

table_is : (g : _) (c : After-deref_mut g) → c.table_asked-table.result ≡ table_of (seats g c)
table_is g c = c.table_asked-table.ensures ∙ ap table_of (c.as_slice.ensures ∙ c.in_ok-seats.ensures)

as_asked : (g : _) (c : After-deref_mut g) (P : List Seat → Table → Type 0) → P c.in_ok-seats.seats c.table_asked-table.result → P (seats g c) (table_of (seats g c))
as_asked g c P is = subst (λ (u : Table). P (seats g c) u) (table_is g c) (subst (λ (l : List Seat). P l c.table_asked-table.result) c.in_ok-seats.ensures is)

as_made : (g : _) (c : After-deref_mut g) (P : List Seat → Table → Type 0) → P (seats g c) (table_of (seats g c)) → P c.in_ok-seats.seats c.table_asked-table.result
as_made g c P is = subst (λ (l : List Seat). P l c.table_asked-table.result) (sym c.in_ok-seats.ensures) (subst (λ (u : Table). P (seats g c) u) (sym (table_is g c)) is)

room_is : (g : _) (c : After-deref_mut g) → length c.in_ok-room.room.items ≡ list_room (table_of (seats g c)).plan.lists
room_is g c = c.in_ok-room.ensures ∙ ap (λ (u : Table). list_room u.plan.lists) (table_is g c)

room_now : (g : _) (c : After-deref_mut g) → length c.deref_mut.result.now ≡ list_room (table_of (seats g c)).plan.lists
room_now g c = ap length c.deref_mut.ensures.value ∙ room_is g c

abbrev sizes : (g : _) → After-deref_mut g → List ℕ
sizes g c = g.S.Shelf.sizes c.args.shelf.now

least : (g : _) (c : After-deref_mut g) → 6 ≤ least_room (map (λ (s : Seat). s.place) (seats g c))
least g c = room_asked c.args.key.now c.args.identity c.args.count c.args.blocks c.args.lines.now (sizes g c) c.requires.asked

text : (g : _) (c : After-deref_mut g) → record_bytes (table_of (seats g c)) ≡ 24 + 12 * (length c.args.lines.now * c.args.count)
text g c = text_asked c.args.key.now c.args.identity c.args.count c.args.blocks c.args.lines.now (sizes g c) c.requires.asked

gone : (g : _) (c : After-deref_mut g) → HaveGone g.S.Shelf c.args.shelf.now c.format_all.new.shelf (drives_asked c.args.lines.now) ((blanks_asked c.args.lines.now c.args.count c.args.blocks) ++ (forms_asked c.args.key.now c.args.identity 1 c.args.lines.now c.args.count c.args.blocks))
gone g c = gone_then g.S.Shelf (drives_asked c.args.lines.now) (blanks_asked c.args.lines.now c.args.count c.args.blocks) (forms_asked c.args.key.now c.args.identity 1 c.args.lines.now c.args.count c.args.blocks) c.args.shelf.now c.clear_all.new.shelf c.format_all.new.shelf c.in_ok-clear_all.ensures.gone c.in_ok-format_all.ensures.gone

pub write_all-requires-clause-laid : goal.write_all-requires-clause-laid
write_all-requires-clause-laid g c =
    as_made g c (λ l u. AreLaid (g.S.Shelf.sizes c.format_all.new.shelf) l)
    (subst (λ (s : List ℕ). AreLaid s (seats g c)) (sym (gone g c).kept.keeps.same_sizes) (seats_laid c.args.key.now c.args.identity c.args.count c.args.blocks c.args.lines.now (sizes g c) c.requires.asked))

pub write_all-requires-clause-in_seats : goal.write_all-requires-clause-in_seats
write_all-requires-clause-in_seats g c =
    as_made g c (λ l u. HaveRoom (blocks_for (text_size u)) l) (room_for_text c.args.key.now c.args.identity c.args.count c.args.blocks c.args.lines.now (sizes g c) c.requires.asked)

pub write_all-requires-clause-in_room : goal.write_all-requires-clause-in_room
write_all-requires-clause-in_room g c =
    as_made g c (λ l u. text_size u ≤ 512 * length c.deref_mut.result.now)
    (let few = c.requires.asked.few in let bytes = text g c in let room = room_now g c in let six = least g c in omega (arith, few, bytes, room, six))

pub write_all-requires-clause-some : goal.write_all-requires-clause-some
write_all-requires-clause-some g c = (let room = room_now g c in let six = least g c in omega (arith, room, six))

pub write_all-requires-clause-short : goal.write_all-requires-clause-short
write_all-requires-clause-short g c = (let room = room_now g c in let most = room_most (map (λ (s : Seat). s.place) (seats g c)) in let first_long = first_most (map (λ (s : Seat). s.place) (seats g c)) in omega (arith, room, most, first_long))

-- Behind the writing.
pub returns-in-Some-clause-answer : goal.returns-in-Some-clause-answer
returns-in-Some-clause-answer g c =
    let d = (goal.at.returns-in-Some-clause-answer g c).After-deref_mut in
    let own = owner g (goal.at.returns-in-Some-clause-answer g c).After-check_owner in
    let left = as_asked g d (λ l u. AreLeft (DriveFailures g.S.Shelf c.format_all.new.shelf c.write_all.new.shelf) (TakesSlot first_mark (text_size u)) l c.write_all.new.seats) c.write_all.ensures.left in
    subst (λ (f : CreateFault). IsCreated g.S.Shelf c.args.shelf.now c.write_all.new.shelf c.args.key.now c.args.identity c.args.lines.now c.args.count c.args.blocks (Err f)) (sym c.lost.ensures)
    (lost_created g.S.Shelf c.args.key.now c.args.identity c.args.lines.now c.args.count c.args.blocks c.args.shelf.now c.requires.asked own c.format_all.new.shelf c.write_all.new.shelf c.write_all.new.seats (gone g d) left c.in-Some.share.active c.in-Some.share.listed (ap (λ (u : Table). short_of Half c.write_all.new.seats u.plan.lists) (sym (table_is g d)) ∙ ap (λ (l : List Seat). short_of Half l c.table_asked-table.result.plan.lists) (sym c.as_slice-2.ensures) ∙ sym c.in-Some.ensures) (as_asked g d (λ l u. WereWritten g.S.Shelf first_mark u c.format_all.new.shelf c.write_all.new.shelf l c.write_all.new.seats) c.write_all.ensures.passed) (as_asked g d (λ l u. KeptAmong g.S.Shelf c.format_all.new.shelf c.write_all.new.shelf (drives_of l)) c.write_all.ensures.kept) (as_asked g d (λ l u. AtEachTale g.S.Shelf (WritingMoment l first_mark u) c.format_all.new.shelf c.write_all.new.shelf) c.write_all.ensures.moments) (as_asked g d (λ l u. AtEnd g.S.Shelf (WritingEnds l c.write_all.new.seats first_mark u) c.format_all.new.shelf c.write_all.new.shelf) c.write_all.ensures.end))

pub returns-in-Some-clause-moments : goal.returns-in-Some-clause-moments
returns-in-Some-clause-moments g c =
    let d = (goal.at.returns-in-Some-clause-moments g c).After-deref_mut in
    let own = owner g (goal.at.returns-in-Some-clause-moments g c).After-check_owner in
    let left = as_asked g d (λ l u. AreLeft (DriveFailures g.S.Shelf c.format_all.new.shelf c.write_all.new.shelf) (TakesSlot first_mark (text_size u)) l c.write_all.new.seats) c.write_all.ensures.left in
    written_moments g.S.Shelf c.args.key.now c.args.identity c.args.lines.now c.args.count c.args.blocks c.args.shelf.now c.requires.asked own c.format_all.new.shelf c.write_all.new.shelf c.write_all.new.seats (gone g d) left (as_asked g d (λ l u. AtEachTale g.S.Shelf (WritingMoment l first_mark u) c.format_all.new.shelf c.write_all.new.shelf) c.write_all.ensures.moments)

pub returns-in-Some-clause-end : goal.returns-in-Some-clause-end
returns-in-Some-clause-end g c =
    let d = (goal.at.returns-in-Some-clause-end g c).After-deref_mut in
    let own = owner g (goal.at.returns-in-Some-clause-end g c).After-check_owner in
    let left = as_asked g d (λ l u. AreLeft (DriveFailures g.S.Shelf c.format_all.new.shelf c.write_all.new.shelf) (TakesSlot first_mark (text_size u)) l c.write_all.new.seats) c.write_all.ensures.left in
    subst (λ (f : CreateFault). AtEnd g.S.Shelf (CreateEnds c.args.key.now c.args.identity c.args.lines.now c.args.count c.args.blocks (Err f)) c.args.shelf.now c.write_all.new.shelf) (sym c.lost.ensures) (lost_end g.S.Shelf c.args.key.now c.args.identity c.args.lines.now c.args.count c.args.blocks c.args.shelf.now c.requires.asked own c.format_all.new.shelf c.write_all.new.shelf c.write_all.new.seats (gone g d) left c.in-Some.share.active c.in-Some.share.listed (as_asked g d (λ l u. AtEnd g.S.Shelf (WritingEnds l c.write_all.new.seats first_mark u) c.format_all.new.shelf c.write_all.new.shelf) c.write_all.ensures.end))

pub returns-in-Some-clause-counted : goal.returns-in-Some-clause-counted
returns-in-Some-clause-counted g c =
    let d = (goal.at.returns-in-Some-clause-counted g c).After-deref_mut in
    let own = owner g (goal.at.returns-in-Some-clause-counted g c).After-check_owner in
    let left = as_asked g d (λ l u. AreLeft (DriveFailures g.S.Shelf c.format_all.new.shelf c.write_all.new.shelf) (TakesSlot first_mark (text_size u)) l c.write_all.new.seats) c.write_all.ensures.left in
    subst (λ (f : CreateFault). IsCreationCounted g.S.Shelf c.args.shelf.now c.write_all.new.shelf c.args.lines.now c.args.count c.args.blocks (Err f)) (sym c.lost.ensures)
    (lost_counted g.S.Shelf c.args.key.now c.args.identity c.args.lines.now c.args.count c.args.blocks c.args.shelf.now c.requires.asked own c.format_all.new.shelf c.write_all.new.shelf c.write_all.new.seats (gone g d) left (as_asked g d (λ l u. ArePassCounted g.S.Shelf c.format_all.new.shelf c.write_all.new.shelf 6 (2 + blocks_for (text_size u)) l c.write_all.new.seats) c.write_all.ensures.passed.counted) c.in-Some.share.active c.in-Some.share.listed)

pub returns-in-Some-clause-kept : goal.returns-in-Some-clause-kept
returns-in-Some-clause-kept g c =
    let d = (goal.at.returns-in-Some-clause-kept g c).After-deref_mut in
    let own = owner g (goal.at.returns-in-Some-clause-kept g c).After-check_owner in
    let left = as_asked g d (λ l u. AreLeft (DriveFailures g.S.Shelf c.format_all.new.shelf c.write_all.new.shelf) (TakesSlot first_mark (text_size u)) l c.write_all.new.seats) c.write_all.ensures.left in
    all_kept g.S.Shelf c.args.key.now c.args.identity c.args.lines.now c.args.count c.args.blocks c.args.shelf.now c.requires.asked own c.format_all.new.shelf c.write_all.new.shelf c.write_all.new.seats (gone g d) left (as_asked g d (λ l u. KeptAmong g.S.Shelf c.format_all.new.shelf c.write_all.new.shelf (drives_of l)) c.write_all.ensures.kept)

pub invariant_of-result : goal.invariant_of-result
invariant_of-result g c =
    let d = (goal.at.invariant_of-result g c).After-deref_mut in
    let own = owner g (goal.at.invariant_of-result g c).After-check_owner in
    let left = as_asked g d (λ l u. AreLeft (DriveFailures g.S.Shelf c.format_all.new.shelf c.write_all.new.shelf) (TakesSlot first_mark (text_size u)) l c.write_all.new.seats) c.write_all.ensures.left in
    subst (λ (u : Table). IsOpen (record { key = c.args.key.now; identity = c.args.identity; mark = first_mark; table = u; seats = c.write_all.new.seats }) c.in_ok-room.room.len) (sym (table_is g d))
    (made_open g.S.Shelf c.args.key.now c.args.identity c.args.lines.now c.args.count c.args.blocks c.args.shelf.now c.requires.asked own c.format_all.new.shelf c.write_all.new.shelf c.write_all.new.seats (gone g d) left c.in_ok-room.room.len (let whole = room_is g d in let ok = c.in_ok-room.room.ok.0 in omega (arith, whole, ok)))

pub returns-clause-answer : goal.returns-clause-answer
returns-clause-answer g c =
    let d = (goal.at.returns-clause-answer g c).After-deref_mut in
    let own = owner g (goal.at.returns-clause-answer g c).After-check_owner in
    let left = as_asked g d (λ l u. AreLeft (DriveFailures g.S.Shelf c.format_all.new.shelf c.write_all.new.shelf) (TakesSlot first_mark (text_size u)) l c.write_all.new.seats) c.write_all.ensures.left in
    subst (λ (u : Table). IsCreated g.S.Shelf c.args.shelf.now c.write_all.new.shelf c.args.key.now c.args.identity c.args.lines.now c.args.count c.args.blocks (Ok (record { key = c.args.key.now; identity = c.args.identity; mark = first_mark; table = u; seats = c.write_all.new.seats }))) (sym (table_is g d)) (made_created g.S.Shelf c.args.key.now c.args.identity c.args.lines.now c.args.count c.args.blocks c.args.shelf.now c.requires.asked own c.format_all.new.shelf c.write_all.new.shelf c.write_all.new.seats (gone g d) left (ap (λ (u : Table). short_of Half c.write_all.new.seats u.plan.lists) (sym (table_is g d)) ∙ ap (λ (l : List Seat). short_of Half l c.table_asked-table.result.plan.lists) (sym c.as_slice-2.ensures) ∙ sym c.short.ensures ∙ c.in_default.is) (as_asked g d (λ l u. WereWritten g.S.Shelf first_mark u c.format_all.new.shelf c.write_all.new.shelf l c.write_all.new.seats) c.write_all.ensures.passed) (as_asked g d (λ l u. KeptAmong g.S.Shelf c.format_all.new.shelf c.write_all.new.shelf (drives_of l)) c.write_all.ensures.kept) (as_asked g d (λ l u. AtEachTale g.S.Shelf (WritingMoment l first_mark u) c.format_all.new.shelf c.write_all.new.shelf) c.write_all.ensures.moments) (as_asked g d (λ l u. AtEnd g.S.Shelf (WritingEnds l c.write_all.new.seats first_mark u) c.format_all.new.shelf c.write_all.new.shelf) c.write_all.ensures.end))

pub returns-clause-moments : goal.returns-clause-moments
returns-clause-moments g c =
    let d = (goal.at.returns-clause-moments g c).After-deref_mut in
    let own = owner g (goal.at.returns-clause-moments g c).After-check_owner in
    let left = as_asked g d (λ l u. AreLeft (DriveFailures g.S.Shelf c.format_all.new.shelf c.write_all.new.shelf) (TakesSlot first_mark (text_size u)) l c.write_all.new.seats) c.write_all.ensures.left in
    written_moments g.S.Shelf c.args.key.now c.args.identity c.args.lines.now c.args.count c.args.blocks c.args.shelf.now c.requires.asked own c.format_all.new.shelf c.write_all.new.shelf c.write_all.new.seats (gone g d) left (as_asked g d (λ l u. AtEachTale g.S.Shelf (WritingMoment l first_mark u) c.format_all.new.shelf c.write_all.new.shelf) c.write_all.ensures.moments)

pub returns-clause-end : goal.returns-clause-end
returns-clause-end g c =
    let d = (goal.at.returns-clause-end g c).After-deref_mut in
    let own = owner g (goal.at.returns-clause-end g c).After-check_owner in
    let left = as_asked g d (λ l u. AreLeft (DriveFailures g.S.Shelf c.format_all.new.shelf c.write_all.new.shelf) (TakesSlot first_mark (text_size u)) l c.write_all.new.seats) c.write_all.ensures.left in
    subst (λ (u : Table). AtEnd g.S.Shelf (CreateEnds c.args.key.now c.args.identity c.args.lines.now c.args.count c.args.blocks (Ok (record { key = c.args.key.now; identity = c.args.identity; mark = first_mark; table = u; seats = c.write_all.new.seats }))) c.args.shelf.now c.write_all.new.shelf) (sym (table_is g d)) (made_end g.S.Shelf c.args.key.now c.args.identity c.args.lines.now c.args.count c.args.blocks c.args.shelf.now c.requires.asked own c.format_all.new.shelf c.write_all.new.shelf c.write_all.new.seats (gone g d) left (ap (λ (u : Table). short_of Half c.write_all.new.seats u.plan.lists) (sym (table_is g d)) ∙ ap (λ (l : List Seat). short_of Half l c.table_asked-table.result.plan.lists) (sym c.as_slice-2.ensures) ∙ sym c.short.ensures ∙ c.in_default.is) (as_asked g d (λ l u. AtEnd g.S.Shelf (WritingEnds l c.write_all.new.seats first_mark u) c.format_all.new.shelf c.write_all.new.shelf) c.write_all.ensures.end))

pub returns-clause-counted : goal.returns-clause-counted
returns-clause-counted g c =
    let d = (goal.at.returns-clause-counted g c).After-deref_mut in
    let own = owner g (goal.at.returns-clause-counted g c).After-check_owner in
    let left = as_asked g d (λ l u. AreLeft (DriveFailures g.S.Shelf c.format_all.new.shelf c.write_all.new.shelf) (TakesSlot first_mark (text_size u)) l c.write_all.new.seats) c.write_all.ensures.left in
    made_counted g.S.Shelf c.args.key.now c.args.identity c.args.lines.now c.args.count c.args.blocks c.args.shelf.now c.requires.asked own c.format_all.new.shelf c.write_all.new.shelf c.write_all.new.seats (gone g d) left (as_asked g d (λ l u. ArePassCounted g.S.Shelf c.format_all.new.shelf c.write_all.new.shelf 6 (2 + blocks_for (text_size u)) l c.write_all.new.seats) c.write_all.ensures.passed.counted) (record { key = c.args.key.now; identity = c.args.identity; mark = first_mark; table = c.table_asked-table.result; seats = c.write_all.new.seats }) refl (table_is g d)

pub returns-clause-kept : goal.returns-clause-kept
returns-clause-kept g c =
    let d = (goal.at.returns-clause-kept g c).After-deref_mut in
    let own = owner g (goal.at.returns-clause-kept g c).After-check_owner in
    let left = as_asked g d (λ l u. AreLeft (DriveFailures g.S.Shelf c.format_all.new.shelf c.write_all.new.shelf) (TakesSlot first_mark (text_size u)) l c.write_all.new.seats) c.write_all.ensures.left in
    all_kept g.S.Shelf c.args.key.now c.args.identity c.args.lines.now c.args.count c.args.blocks c.args.shelf.now c.requires.asked own c.format_all.new.shelf c.write_all.new.shelf c.write_all.new.seats (gone g d) left (as_asked g d (λ l u. KeptAmong g.S.Shelf c.format_all.new.shelf c.write_all.new.shelf (drives_of l)) c.write_all.ensures.kept)
