use Rattle.std.proofs.Common.{◌≡◌, inl, ℕ, List, ◌≤◌, ◌<◌, ◌+◌, ◌^◌, ◌∙◌, None, Err, ap, arith, subst, sym, vec_len}
use Rattle.mdv_shelf.specs.Moments.{Ends, Moments}
use Rattle.mdv_shelf.specs.Shelves.{AtEnd, DriveFailures}
use Rattle.mdv_store.specs.Below.{Failures, Geometry, IsOfGeometry, record_bytes}
use Rattle.mdv_store.specs.Commit.{CameOfCommit, CommitDone, CommitMoment, IsCommitted, IsLostNow, next_mark, room_in}
use Rattle.mdv_store.specs.Opened.{IsOpenedAt, Opened, shortage}
use Rattle.mdv_store.specs.Seats.{AreLaid, TakesSlot}
use Rattle.mdv_store.specs.Shares.{short_of}
use Rattle.mdv_store.specs.Writing.{AreWrittenBy, WritingEnds}
use Rattle.mdv_store.specs.declared.seats.Need.TheVariants.{Half}
use Rattle.mdv_store.specs.declared.seats.Seat.{Seat}
use Rattle.mdv_store.specs.declared.store.CommitFault.{CommitFault}
use Rattle.mdv_store.proofs.Committing.{commit_ends, commit_moments, committed, left_ends, lost_now, lost_open, new_open, none_moments}
use Rattle.mdv_store.proofs.Marks.{slot_laid}
use Rattle.mdv_store.proofs.Rooms.{have_room}
use Rattle.mdv_store.proofs.Sitting.{left_laid}
use Rattle.mdv_store.proofs.Texts.{text_some}
use Rattle.mdv_store.proofs.store.Store.commit.Goals as goal
use Rattle.mdv_store.proofs.store.Store.commit.Goals.{After-write_all}

pub returns-in-Some-clause-moments : goal.returns-in-Some-clause-moments
returns-in-Some-clause-moments g c = none_moments c.args.self.now c.args.next _

pub returns-in_err-check_room-clause-moments : goal.returns-in_err-check_room-clause-moments
returns-in_err-check_room-clause-moments g c = none_moments c.args.self.now c.args.next _

pub returns-then-count-ge-NUMBER_LIMIT-clause-moments : goal.returns-then-count-ge-NUMBER_LIMIT-clause-moments
returns-then-count-ge-NUMBER_LIMIT-clause-moments g c = none_moments c.args.self.now c.args.next _

pub write_all-requires-clause-laid : goal.write_all-requires-clause-laid
write_all-requires-clause-laid g c = subst (λ (o : Opened). AreLaid (g.S.Shelf.sizes c.args.shelf.now) o.seats) (sym c.self.view_is) c.requires.laid

pub write_all-requires-clause-in_seats : goal.write_all-requires-clause-in_seats
write_all-requires-clause-in_seats g c =
    have_room c.self.inside.table c.self.inside.seats (record_bytes c.args.next) c.self.invariant.seats (text_some c.args.next)
    (subst (λ (o : Opened). record_bytes c.args.next ≤ room_in o.table) (sym c.self.view_is) c.in_ok-check_room.ensures.ok)

pub write_all-requires-clause-some : goal.write_all-requires-clause-some
write_all-requires-clause-some g c =
    let fits = subst (λ (o : Opened). record_bytes c.args.next ≤ room_in o.table) (sym c.self.view_is) c.in_ok-check_room.ensures.ok in
    omega (arith, text_some c.args.next, c.deref_mut.ensures.len)

-- the open database, by its fields
abbrev opened : (g : _) → After-write_all g → Opened
opened g c = record { key = c.self.inside.key; identity = c.self.inside.identity; mark = c.self.inside.mark; table = c.self.inside.table; seats = c.self.inside.seats }

-- at least half of each of its lists is active
half : (g : _) (c : After-write_all g) → shortage (opened g c) ≡ None
half g c = subst (λ (o : Opened). shortage o ≡ None) (sym c.self.view_is) (sym c.shortage.ensures ∙ c.in_default.is)

lists : (g : _) (c : After-write_all g) → c.args.next.plan.lists ≡ (opened g c).table.plan.lists
lists g c = c.requires.lists ∙ ap (λ (o : Opened). o.table.plan.lists) (sym c.self.view_is)

fits : (g : _) (c : After-write_all g) → record_bytes c.args.next ≤ room_in (opened g c).table
fits g c = subst (λ (o : Opened). record_bytes c.args.next ≤ room_in o.table) (sym c.self.view_is) c.in_ok-check_room.ensures.ok

small : (g : _) (c : After-write_all g) → (opened g c).mark.count + 1 < 2 ^ 63
small g c = omega arith

abbrev failed : (g : _) → After-write_all g → ℕ → Failures
failed g c = DriveFailures g.S.Shelf c.args.shelf.now c.write_all.new.shelf

-- where they lie then
laid : (g : _) (c : After-write_all g) → AreLaid (g.S.Shelf.sizes c.write_all.new.shelf) c.write_all.new.seats
laid g c =
    let mark = next_mark c.self.inside.mark in
    let bytes = record_bytes c.args.next in
    let before = subst (λ (o : Opened). AreLaid (g.S.Shelf.sizes c.args.shelf.now) o.seats) (sym c.self.view_is) c.requires.laid in
    left_laid (failed g c) (TakesSlot mark bytes) (g.S.Shelf.sizes c.write_all.new.shelf) c.self.inside.seats c.write_all.new.seats (slot_laid mark bytes (g.S.Shelf.sizes c.write_all.new.shelf)) c.write_all.ensures.left
    (subst (λ (sizes : List ℕ). AreLaid sizes c.self.inside.seats) (sym c.write_all.ensures.kept.keeps.same_sizes) before)

-- what was written, and of that these are left
written : (g : _) (c : After-write_all g) → AtEnd g.S.Shelf (WritingEnds c.args.self.now.seats c.write_all.new.seats (next_mark c.args.self.now.mark) c.args.next) c.args.shelf.now c.write_all.new.shelf
written g c =
    subst (λ (o : Opened). AtEnd g.S.Shelf (WritingEnds o.seats c.write_all.new.seats (next_mark o.mark) c.args.next) c.args.shelf.now c.write_all.new.shelf) c.self.view_is c.write_all.ensures.end

-- at each place in turn
steps : (g : _) (c : After-write_all g) → AreWrittenBy g.S.Shelf (next_mark c.args.self.now.mark) c.args.next c.args.shelf.now c.write_all.new.shelf c.args.self.now.seats c.write_all.new.seats
steps g c = subst (λ (o : Opened). AreWrittenBy g.S.Shelf (next_mark o.mark) c.args.next c.args.shelf.now c.write_all.new.shelf o.seats c.write_all.new.seats) c.self.view_is c.write_all.ensures.passed.steps

-- and these show it
left_show : (g : _) (c : After-write_all g) → AtEnd g.S.Shelf (λ t u. (geometry : Geometry) → IsOfGeometry geometry c.args.next → IsOpenedAt geometry c.args.self.now t → IsOpenedAt geometry (record (opened g c) { mark = next_mark c.args.self.now.mark; table = c.args.next; seats = c.write_all.new.seats }) u)
    c.args.shelf.now c.write_all.new.shelf
left_show g c =
    subst (λ (o : Opened). Ends (λ t u. (geometry : Geometry) → IsOfGeometry geometry c.args.next → IsOpenedAt geometry o t → IsOpenedAt geometry (record (opened g c) { mark = next_mark o.mark; table = c.args.next; seats = c.write_all.new.seats }) u) (g.S.Shelf.tale c.args.shelf.now) (g.S.Shelf.tale c.write_all.new.shelf)) c.self.view_is
    (left_ends (opened g c) c.args.next c.self.invariant.seats c.self.invariant.boot (small g c) (half g c) (c.self.invariant.marks (half g c)) (lists g c) (fits g c) (failed g c) c.write_all.new.seats c.write_all.ensures.left _ _ c.write_all.ensures.end)

pub returns-in-Some-short-clause-answer : goal.returns-in-Some-short-clause-answer
returns-in-Some-short-clause-answer g c =
    let w = (goal.at.returns-in-Some-short-clause-answer g c).After-write_all in
    let few = ap (λ (l : List Seat). short_of Half l c.self.inside.table.plan.lists) (sym c.as_slice.ensures) ∙ sym c.in-Some-short.ensures in
    let new : Opened = record (opened g w) { seats = c.write_all.new.seats } in
    let now = subst (λ (o : Opened). IsLostNow (failed g w) o new c.args.next) c.self.view_is (lost_now (opened g w) c.args.next c.self.invariant.seats c.self.invariant.boot (small g w) (half g w) (c.self.invariant.marks (half g w)) (lists g w) (fits g w) (failed g w) c.write_all.new.seats c.write_all.ensures.left) in
    record { came = subst (λ (fault : CommitFault). CameOfCommit (failed g w) c.args.self.now new c.args.next (Err fault)) (sym c.lost-in-Some-short.ensures) (few, inl now); laid = laid g w; steps = λ tried. steps g w; passed = λ tried. written g w; shown = λ tried. left_show g w }

pub returns-clause-answer : goal.returns-clause-answer
returns-clause-answer g c =
    let w = (goal.at.returns-clause-answer g c).After-write_all in
    let enough = ap (λ (l : List Seat). short_of Half l c.self.inside.table.plan.lists) (sym c.as_slice.ensures) ∙ sym c.short.ensures ∙ c.in_default-short.is in
    let new : Opened = record (opened g w) { mark = next_mark c.self.inside.mark; table = c.args.next; seats = c.write_all.new.seats } in
    record {
      came = subst (λ (o : Opened). IsCommitted (failed g w) o new c.args.next) c.self.view_is (committed (opened g w) c.args.next c.self.invariant.seats c.self.invariant.boot (small g w) (half g w) (c.self.invariant.marks (half g w)) (lists g w) (fits g w) (failed g w) c.write_all.new.seats c.write_all.ensures.left enough);
      laid = laid g w;
      steps = λ tried. steps g w;
      passed = λ tried. written g w;
      shown = λ tried. left_show g w;
    }

-- at each moment
writing : (g : _) (c : After-write_all g) → Moments (CommitMoment c.args.self.now c.args.next) (g.S.Shelf.tale c.args.shelf.now) (g.S.Shelf.tale c.write_all.new.shelf)
writing g c =
    subst (λ (o : Opened). Moments (CommitMoment o c.args.next) (g.S.Shelf.tale c.args.shelf.now) (g.S.Shelf.tale c.write_all.new.shelf)) c.self.view_is
    (commit_moments (opened g c) c.args.next c.self.invariant.seats c.self.invariant.boot (small g c) (half g c) (c.self.invariant.marks (half g c)) (lists g c) (fits g c) _ _ c.write_all.ensures.moments)

pub returns-in-Some-short-clause-moments : goal.returns-in-Some-short-clause-moments
returns-in-Some-short-clause-moments g c = writing g (goal.at.returns-in-Some-short-clause-moments g c).After-write_all

pub returns-clause-moments : goal.returns-clause-moments
returns-clause-moments g c = writing g (goal.at.returns-clause-moments g c).After-write_all

pub invariant_of-self : goal.invariant_of-self
invariant_of-self g c =
    let w = (goal.at.invariant_of-self g c).After-write_all in
    let few = ap (λ (l : List Seat). short_of Half l c.self.inside.table.plan.lists) (sym c.as_slice.ensures) ∙ sym c.in-Some-short.ensures in
    lost_open (opened g w) c.args.next c.self.invariant.seats c.self.invariant.boot (small g w) (half g w) (c.self.invariant.marks (half g w)) (lists g w) (fits g w) (failed g w) c.write_all.new.seats c.write_all.ensures.left (vec_len c.self.inside.room) c.self.invariant.whole c.self.invariant.first c.self.invariant.short c.in-Some-short.share few

pub invariant_of-self-2 : goal.invariant_of-self-2
invariant_of-self-2 g c =
    let w = (goal.at.invariant_of-self-2 g c).After-write_all in
    new_open (opened g w) c.args.next c.self.invariant.seats c.self.invariant.boot (small g w) (half g w) (c.self.invariant.marks (half g w)) (lists g w) (fits g w) (failed g w) c.write_all.new.seats c.write_all.ensures.left (vec_len c.self.inside.room) c.self.invariant.whole c.self.invariant.first c.self.invariant.short

pub returns-clause-end : goal.returns-clause-end
returns-clause-end g c =
    let w = (goal.at.returns-clause-end g c).After-write_all in
    let enough = ap (λ (l : List Seat). short_of Half l c.self.inside.table.plan.lists) (sym c.as_slice.ensures) ∙ sym c.short.ensures ∙ c.in_default-short.is in
    let new : Opened = record (opened g w) { mark = next_mark c.self.inside.mark; table = c.args.next; seats = c.write_all.new.seats } in
    subst (λ (o : Opened). Ends (CommitDone o new c.args.next) (g.S.Shelf.tale c.args.shelf.now) (g.S.Shelf.tale c.write_all.new.shelf)) c.self.view_is
    (commit_ends (opened g w) c.args.next c.self.invariant.seats c.self.invariant.boot (small g w) (half g w) (c.self.invariant.marks (half g w)) (lists g w) (fits g w) (failed g w) c.write_all.new.seats c.write_all.ensures.left _ _ enough c.write_all.ensures.end)
