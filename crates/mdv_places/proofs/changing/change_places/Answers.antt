use Rattle.std.proofs.Common.{◌≡◌, ℕ, Bool, List, ◌++◌, Result, Err, Ok, MatchOption, vec_len, sym, ◌∙◌, ap, subst}
use Rattle.std.proofs.lemmas.List.Elements.{Contains-append_left}
use Rattle.std.proofs.lemmas.Result.{err_from_is_err_and}
use Rattle.mdv_acts.specs.Wipes.{AreLaidOn, AreLostBy, WereWiped, wipe_order}
use Rattle.mdv_base.specs.DriveSet.{Drives, no_drives}
use Rattle.mdv_shelf.proofs.Among.{among_wider}
use Rattle.mdv_shelf.specs.Shelves.{AtEnd, DriveFailures}
use Rattle.mdv_store.specs.Listing.{IsRoomFor, IsRoomy, IsSecond, MayList, WasListed, listed_by, seats_then}
use Rattle.mdv_places.specs.Asked.{asked_of, drives_added, dropped, list_after, lists_after, seats_added}
use Rattle.mdv_places.specs.Below.{AreLaid, Lists, Opened, Place, Share, Table, Two, beside, drives_of, last_of}
use Rattle.mdv_places.specs.Answer.{MoveAnswer}
use Rattle.mdv_places.specs.Changing.{IsPrepared, both_of, drives_dropped, drives_moved}
use Rattle.mdv_places.specs.Counts.{IsMoveCounted}
use Rattle.mdv_places.specs.Moments.{MoveEnds}
use Rattle.mdv_places.specs.declared.changing.PlacesFault.{PlacesFault}
use Rattle.mdv_places.proofs.Answering.{between_laid, lost_both, lost_last, moved, stopped_answer}
use Rattle.mdv_places.proofs.Counting.{move_between, short_both, short_last}
use Rattle.mdv_places.proofs.Dropping.{dropped_laid}
use Rattle.mdv_places.proofs.Exact.{moved_just}
use Rattle.mdv_places.proofs.Keeping.{added_within, listed_kept, settled_kept}
use Rattle.mdv_places.proofs.Losing.{lost_calm, lost_then}
use Rattle.mdv_places.proofs.Moving.{both_laid, is_last, is_second}
use Rattle.mdv_places.proofs.Preparing.{all_seats, has_room}
use Rattle.mdv_places.proofs.Telling.{listed_shown, listed_told, moved_blanked, moved_end, moved_shown, moved_told, none_told, settled_shown, settled_told, stopped_ends, stopped_shown, stopped_told}
use Rattle.mdv_places.proofs.Wiping.{moved_kept}
use Rattle.mdv_places.proofs.changing.change_places.Goals as goal
use Rattle.mdv_places.proofs.changing.change_places.Goals.{After-form, After-wipe_each}

-- The lists, as they were asked.
was_is : (g : _) (c : After-form g) → c.copy_of-was.result ≡ last_of c.args.store.now.table.plan.lists
was_is g c = c.copy_of-was.ensures ∙ c.last_of.ensures.value ∙ ap (λ (t : Table). last_of t.plan.lists) c.table.ensures

next_is : (g : _) (c : After-form g) → c.list_after-next.result ≡ list_after (asked_of c.args.asked.now) (last_of c.args.store.now.table.plan.lists)
next_is g c = c.list_after-next.ensures ∙ ap (list_after (asked_of c.args.asked.now)) (c.as_slice.ensures ∙ was_is g c)

lists_are : (g : _) (c : After-form g) → Two c.copy_of-was.result c.list_after-next.result ≡ lists_after (asked_of c.args.asked.now) c.args.store.now.table.plan.lists
lists_are g c = (let was = was_is g c in let next = next_is g c in λ i. Two (was i) (next i))

beside_is : (g : _) (c : After-form g) → wipe_order c.list_beside-dropped.result ≡ dropped (asked_of c.args.asked.now) (last_of c.args.store.now.table.plan.lists)
beside_is g c =
    let was = c.as_slice-3.ensures ∙ was_is g c in
    let next = c.as_slice-2.ensures ∙ next_is g c in
    ap wipe_order (c.list_beside-dropped.ensures ∙ (λ i. beside (next i) (was i)))

checked : (g : _) (c : After-form g) → MayList c.args.store.now (lists_after (asked_of c.args.asked.now) c.args.store.now.table.plan.lists)
checked g c = subst (MayList c.args.store.now) (lists_are g c) c.in_ok-check_lists.ensures

prepared : (g : _) (c : After-form g) → IsPrepared c.args.store.now (lists_after (asked_of c.args.asked.now) c.args.store.now.table.plan.lists) (asked_of c.args.asked.now) c.in_ok-hand.hand
prepared g c = subst (λ (l : Lists). IsPrepared c.args.store.now l (asked_of c.args.asked.now) c.in_ok-hand.hand) (lists_are g c) c.in_ok-hand.ensures.made

seats_are : (g : _) (c : After-form g) → seats_then c.in_ok-hand.hand.seats c.args.store.now.seats ≡ c.args.store.now.seats ++ seats_added c.args.store.now (asked_of c.args.asked.now)
seats_are g c = all_seats c.args.store.now (lists_after (asked_of c.args.asked.now) c.args.store.now.table.plan.lists) (asked_of c.args.asked.now) c.in_ok-hand.hand (prepared g c)

-- the open database as it is about to be written with both lists
before_is : (g : _) (c : After-form g) → listed_by c.args.store.now (Two c.copy_of-was.result c.list_after-next.result) (seats_then c.in_ok-hand.hand.seats c.args.store.now.seats) ≡ both_of c.args.store.now (asked_of c.args.asked.now)
before_is g c = (let lists = lists_are g c in let seats = seats_are g c in λ i. listed_by c.args.store.now (lists i) (seats i))

first_by : (g : _) (c : After-form g) (both : g.row.S.Denot) (between : Opened) (result : Result (Unit {0}) Share) → WasListed g.S.Shelf c.form.new.shelf both (listed_by c.args.store.now (Two c.copy_of-was.result c.list_after-next.result) (seats_then c.in_ok-hand.hand.seats c.args.store.now.seats)) between result
    → WasListed g.S.Shelf c.form.new.shelf both (both_of c.args.store.now (asked_of c.args.asked.now)) between result
first_by g c both between result listed = subst (λ (b : Opened). WasListed g.S.Shelf c.form.new.shelf both b between result) (before_is g c) listed

-- What the first record asks.
pub list_both-requires-clause-laid : goal.list_both-requires-clause-laid
list_both-requires-clause-laid g c =
    let h = (goal.at.list_both-requires-clause-laid g c).After-form in
    let o = c.args.store.now in
    subst (AreLaid (g.S.Shelf.sizes c.form.new.shelf)) (sym (seats_are g h))
    (subst (λ (sizes : List ℕ). AreLaid sizes (o.seats ++ seats_added o (asked_of c.args.asked.now))) (sym c.in_ok-form.ensures.gone.kept.keeps.same_sizes)
    (both_laid (g.S.Shelf.sizes c.args.shelf.now) c.args.geometry.now o (asked_of c.args.asked.now) c.requires.asked (checked g h) c.requires.laid))

pub list_both-requires-clause-second : goal.list_both-requires-clause-second
list_both-requires-clause-second g c =
    let h = (goal.at.list_both-requires-clause-second g c).After-form in
    let o = c.args.store.now in
    subst (λ (l : Lists). IsSecond o l (seats_then c.in_ok-hand.hand.seats o.seats)) (sym (lists_are g h))
    (subst (IsSecond o (lists_after (asked_of c.args.asked.now) o.table.plan.lists)) (sym (seats_are g h)) (is_second (g.S.Shelf.sizes c.args.shelf.now) c.args.geometry.now o (asked_of c.args.asked.now) c.requires.asked (checked g h)))

pub list_both-requires-clause-room : goal.list_both-requires-clause-room
list_both-requires-clause-room g c =
    let h = (goal.at.list_both-requires-clause-room g c).After-form in
    let o = c.args.store.now in
    subst (λ (l : Lists). MatchOption c.in_ok-hand.hand.room (IsRoomy o l) (λ r. IsRoomFor l (vec_len r))) (sym (lists_are g h))
    (has_room (g.S.Shelf.sizes c.args.shelf.now) c.args.geometry.now o (asked_of c.args.asked.now) c.requires.asked (checked g h) c.in_ok-hand.hand (prepared g h))

-- Nothing was done.
pub returns-in_err-check_lists-clause-moments : goal.returns-in_err-check_lists-clause-moments
returns-in_err-check_lists-clause-moments g c = none_told g.S.Shelf c.args.shelf.now c.args.geometry.now c.args.store.now (asked_of c.args.asked.now)

pub returns-in_err-hand-clause-moments : goal.returns-in_err-hand-clause-moments
returns-in_err-hand-clause-moments g c = none_told g.S.Shelf c.args.shelf.now c.args.geometry.now c.args.store.now (asked_of c.args.asked.now)

-- A call failed as places were formatted.
pub returns-in_err-form-clause-answer : goal.returns-in_err-form-clause-answer
returns-in_err-form-clause-answer g c =
    let a = c.args in
    let told = err_from_is_err_and c.from_residual-in_err-form.result c.from_residual-in_err-form.ensures.1 in
    let stopped = c.in_err-form.ensures.stopped in
    subst (MoveAnswer g.S.Shelf a.shelf.now c.form.new.shelf a.geometry.now a.store.now a.store.now (asked_of a.asked.now)) (sym (told.1 ∙ ap Err told.2))
    (stopped_answer g.S.Shelf a.shelf.now a.geometry.now a.store.now (asked_of a.asked.now) c.requires.laid c.form.new.shelf (checked g (goal.at.returns-in_err-form-clause-answer g c).After-form) stopped
    (stopped_shown g.S.Shelf a.shelf.now a.geometry.now a.store.now (asked_of a.asked.now) c.requires.asked (checked g (goal.at.returns-in_err-form-clause-answer g c).After-form) c.requires.asked.sound c.form.new.shelf stopped))

pub returns-in_err-form-clause-kept : goal.returns-in_err-form-clause-kept
returns-in_err-form-clause-kept g c =
    let a = c.args in
    let o = a.store.now in
    let all = drives_of (o.seats ++ seats_added o (asked_of a.asked.now)) in
    among_wider g.S.Shelf a.shelf.now c.form.new.shelf (drives_added (asked_of a.asked.now)) (drives_moved a.geometry.now o (asked_of a.asked.now))
    (λ d has. Contains-append_left all (drives_dropped a.geometry.now o (asked_of a.asked.now)) d (added_within (g.S.Shelf.sizes a.shelf.now) o (asked_of a.asked.now) c.requires.asked.within d has)) c.in_err-form.ensures.stopped.kept

pub returns-in_err-form-clause-moments : goal.returns-in_err-form-clause-moments
returns-in_err-form-clause-moments g c =
    let a = c.args in
    stopped_told g.S.Shelf a.shelf.now a.geometry.now a.store.now (asked_of a.asked.now) c.requires.asked (checked g (goal.at.returns-in_err-form-clause-moments g c).After-form) c.requires.asked.sound c.form.new.shelf c.in_err-form.ensures.stopped

pub returns-in_err-form-clause-end : goal.returns-in_err-form-clause-end
returns-in_err-form-clause-end g c =
    let a = c.args in
    let told = err_from_is_err_and c.from_residual-in_err-form.result c.from_residual-in_err-form.ensures.1 in
    subst (λ (r : Result Bool PlacesFault). AtEnd g.S.Shelf (MoveEnds a.geometry.now a.store.now a.store.now (asked_of a.asked.now) r) a.shelf.now c.form.new.shelf) (sym (told.1 ∙ ap Err told.2))
    (stopped_ends g.S.Shelf a.shelf.now a.geometry.now a.store.now (asked_of a.asked.now) c.requires.asked (checked g (goal.at.returns-in_err-form-clause-end g c).After-form) c.requires.asked.sound c.form.new.shelf c.in_err-form.ensures.stopped)

-- Too few took the table with both lists.
pub returns-in_err-list_both-clause-answer : goal.returns-in_err-list_both-clause-answer
returns-in_err-list_both-clause-answer g c =
    let a = c.args in
    let h = (goal.at.returns-in_err-list_both-clause-answer g c).After-form in
    let share = c.in_err-list_both.field-0.0 in
    let told = err_from_is_err_and c.from_residual-in_err-list_both.result c.from_residual-in_err-list_both.ensures.1 in
    let first = first_by g h c.list_both.new.shelf c.list_both.new.store (Err share) c.in_err-list_both.ensures.listed in
    subst (MoveAnswer g.S.Shelf a.shelf.now c.list_both.new.shelf a.geometry.now a.store.now c.list_both.new.store (asked_of a.asked.now)) (sym (told.1 ∙ ap Err told.2))
    (lost_both g.S.Shelf a.shelf.now c.form.new.shelf c.list_both.new.shelf a.geometry.now a.store.now c.list_both.new.store (asked_of a.asked.now) c.requires.asked (checked g h) c.requires.laid c.in_ok-form.ensures.gone share first
    (listed_shown g.S.Shelf a.shelf.now a.geometry.now a.store.now (asked_of a.asked.now) c.requires.asked (checked g h) c.requires.asked.sound c.form.new.shelf c.in_ok-form.ensures.gone c.list_both.new.shelf c.list_both.new.store share first share.active share.listed))

pub returns-in_err-list_both-clause-counted : goal.returns-in_err-list_both-clause-counted
returns-in_err-list_both-clause-counted g c =
    let a = c.args in
    let h = (goal.at.returns-in_err-list_both-clause-counted g c).After-form in
    let share = c.in_err-list_both.field-0.0 in
    let told = err_from_is_err_and c.from_residual-in_err-list_both.result c.from_residual-in_err-list_both.ensures.1 in
    let first = first_by g h c.list_both.new.shelf c.list_both.new.store (Err share) c.in_err-list_both.ensures.listed in
    subst (IsMoveCounted g.S.Shelf a.shelf.now c.list_both.new.shelf a.geometry.now a.store.now (asked_of a.asked.now) c.list_both.new.store) (sym (told.1 ∙ ap Err told.2))
    (short_both g.S.Shelf a.shelf.now c.form.new.shelf c.list_both.new.shelf c.list_both.new.shelf c.list_both.new.shelf a.geometry.now a.store.now c.list_both.new.store c.list_both.new.store (asked_of a.asked.now) c.in_ok-form.ensures.gone c.requires.asked (checked g h) share first share.active share.listed)

pub returns-in_err-list_both-clause-kept : goal.returns-in_err-list_both-clause-kept
returns-in_err-list_both-clause-kept g c =
    let a = c.args in
    let o = a.store.now in
    let h = (goal.at.returns-in_err-list_both-clause-kept g c).After-form in
    let share = c.in_err-list_both.field-0.0 in
    let all = drives_of (o.seats ++ seats_added o (asked_of a.asked.now)) in
    let first = first_by g h c.list_both.new.shelf c.list_both.new.store (Err share) c.in_err-list_both.ensures.listed in
    among_wider g.S.Shelf a.shelf.now c.list_both.new.shelf all (drives_moved a.geometry.now o (asked_of a.asked.now)) (λ d has. Contains-append_left all (drives_dropped a.geometry.now o (asked_of a.asked.now)) d has)
    (listed_kept g.S.Shelf a.shelf.now c.form.new.shelf c.list_both.new.shelf c.list_both.new.shelf (g.S.Shelf.sizes a.shelf.now) o c.list_both.new.store c.list_both.new.store (asked_of a.asked.now) c.requires.asked.within c.in_ok-form.ensures.gone (Err share) first)

pub returns-in_err-list_both-clause-moments : goal.returns-in_err-list_both-clause-moments
returns-in_err-list_both-clause-moments g c =
    let a = c.args in
    let h = (goal.at.returns-in_err-list_both-clause-moments g c).After-form in
    let share = c.in_err-list_both.field-0.0 in
    let first = first_by g h c.list_both.new.shelf c.list_both.new.store (Err share) c.in_err-list_both.ensures.listed in
    listed_told g.S.Shelf a.shelf.now a.geometry.now a.store.now (asked_of a.asked.now) c.requires.asked (checked g h) c.requires.asked.sound c.form.new.shelf c.in_ok-form.ensures.gone c.list_both.new.shelf c.list_both.new.store (Err share) first

-- What the second record asks.
pub list_last-requires-clause-laid : goal.list_last-requires-clause-laid
list_last-requires-clause-laid g c =
    let a = c.args in
    let h = (goal.at.list_last-requires-clause-laid g c).After-form in
    let first = first_by g h c.list_both.new.shelf c.list_both.new.store (Ok tt) c.in_ok-list_both.ensures.listed in
    between_laid g.S.Shelf a.shelf.now c.form.new.shelf c.list_both.new.shelf a.geometry.now a.store.now c.list_both.new.store (asked_of a.asked.now) c.requires.asked (checked g h) c.requires.laid c.in_ok-form.ensures.gone (Ok tt) first

pub list_last-requires-clause-last : goal.list_last-requires-clause-last
list_last-requires-clause-last g c =
    let a = c.args in
    let h = (goal.at.list_last-requires-clause-last g c).After-form in
    let first = first_by g h c.list_both.new.shelf c.list_both.new.store (Ok tt) c.in_ok-list_both.ensures.listed in
    is_last (g.S.Shelf.sizes a.shelf.now) a.geometry.now a.store.now (asked_of a.asked.now) c.requires.asked (checked g h) g.S.Shelf c.form.new.shelf c.list_both.new.shelf c.list_both.new.store first

-- Too few took that with the new one alone.
pub returns-in_err-list_last-clause-answer : goal.returns-in_err-list_last-clause-answer
returns-in_err-list_last-clause-answer g c =
    let a = c.args in
    let h = (goal.at.returns-in_err-list_last-clause-answer g c).After-form in
    let share = c.in_err-list_last.field-0.0 in
    let told = err_from_is_err_and c.from_residual-in_err-list_last.result c.from_residual-in_err-list_last.ensures.1 in
    let first = first_by g h c.list_both.new.shelf c.list_both.new.store (Ok tt) c.in_ok-list_both.ensures.listed in
    subst (MoveAnswer g.S.Shelf a.shelf.now c.list_last.new.shelf a.geometry.now a.store.now c.list_last.new.store (asked_of a.asked.now)) (sym (told.1 ∙ ap Err told.2))
    (lost_last g.S.Shelf a.shelf.now c.form.new.shelf c.list_both.new.shelf a.geometry.now a.store.now c.list_both.new.store (asked_of a.asked.now) c.requires.asked (checked g h) c.requires.laid c.in_ok-form.ensures.gone first c.list_last.new.shelf c.list_last.new.store share c.in_err-list_last.ensures.listed
    (settled_shown g.S.Shelf a.shelf.now a.geometry.now a.store.now (asked_of a.asked.now) c.requires.asked (checked g h) c.requires.asked.sound c.form.new.shelf c.in_ok-form.ensures.gone c.list_both.new.shelf c.list_both.new.store first c.list_last.new.shelf c.list_last.new.store share
    c.in_err-list_last.ensures.listed share.active share.listed))

pub returns-in_err-list_last-clause-counted : goal.returns-in_err-list_last-clause-counted
returns-in_err-list_last-clause-counted g c =
    let a = c.args in
    let h = (goal.at.returns-in_err-list_last-clause-counted g c).After-form in
    let share = c.in_err-list_last.field-0.0 in
    let told = err_from_is_err_and c.from_residual-in_err-list_last.result c.from_residual-in_err-list_last.ensures.1 in
    let first = first_by g h c.list_both.new.shelf c.list_both.new.store (Ok tt) c.in_ok-list_both.ensures.listed in
    subst (IsMoveCounted g.S.Shelf a.shelf.now c.list_last.new.shelf a.geometry.now a.store.now (asked_of a.asked.now) c.list_last.new.store) (sym (told.1 ∙ ap Err told.2))
    (short_last g.S.Shelf a.shelf.now c.form.new.shelf c.list_both.new.shelf c.list_last.new.shelf c.list_last.new.shelf a.geometry.now a.store.now c.list_both.new.store c.list_last.new.store (asked_of a.asked.now) c.in_ok-form.ensures.gone c.requires.asked (checked g h) first share
    c.in_err-list_last.ensures.listed share.active share.listed)

pub returns-in_err-list_last-clause-kept : goal.returns-in_err-list_last-clause-kept
returns-in_err-list_last-clause-kept g c =
    let a = c.args in
    let o = a.store.now in
    let h = (goal.at.returns-in_err-list_last-clause-kept g c).After-form in
    let share = c.in_err-list_last.field-0.0 in
    let all = drives_of (o.seats ++ seats_added o (asked_of a.asked.now)) in
    let first = first_by g h c.list_both.new.shelf c.list_both.new.store (Ok tt) c.in_ok-list_both.ensures.listed in
    among_wider g.S.Shelf a.shelf.now c.list_last.new.shelf all (drives_moved a.geometry.now o (asked_of a.asked.now)) (λ d has. Contains-append_left all (drives_dropped a.geometry.now o (asked_of a.asked.now)) d has)
    (settled_kept g.S.Shelf a.shelf.now c.form.new.shelf c.list_both.new.shelf c.list_last.new.shelf (g.S.Shelf.sizes a.shelf.now) o c.list_both.new.store c.list_last.new.store (asked_of a.asked.now) c.requires.asked.within c.in_ok-form.ensures.gone first (Err share) c.in_err-list_last.ensures.listed)

pub returns-in_err-list_last-clause-moments : goal.returns-in_err-list_last-clause-moments
returns-in_err-list_last-clause-moments g c =
    let a = c.args in
    let h = (goal.at.returns-in_err-list_last-clause-moments g c).After-form in
    let share = c.in_err-list_last.field-0.0 in
    let first = first_by g h c.list_both.new.shelf c.list_both.new.store (Ok tt) c.in_ok-list_both.ensures.listed in
    settled_told g.S.Shelf a.shelf.now a.geometry.now a.store.now (asked_of a.asked.now) c.requires.asked (checked g h) c.requires.asked.sound c.form.new.shelf c.in_ok-form.ensures.gone c.list_both.new.shelf c.list_both.new.store first c.list_last.new.shelf c.list_last.new.store (Err share) c.in_err-list_last.ensures.listed

-- What the wipes ask.
pub wipe_each-requires-clause-laid : goal.wipe_each-requires-clause-laid
wipe_each-requires-clause-laid g c =
    let a = c.args in
    let h = (goal.at.wipe_each-requires-clause-laid g c).After-form in
    let places = c.as_slice-5.ensures ∙ c.wipe_order-ordered.ensures ∙ ap wipe_order c.as_slice-4.ensures ∙ beside_is g h in
    let sizes = c.in_ok-list_last.ensures.listed.wrote.kept.keeps.same_sizes ∙ c.in_ok-list_both.ensures.listed.wrote.kept.keeps.same_sizes ∙ c.in_ok-form.ensures.gone.kept.keeps.same_sizes in
    subst (AreLaidOn (g.S.Shelf.sizes c.list_last.new.shelf) a.geometry.now) (sym places)
    (subst (λ (ss : List ℕ). AreLaidOn ss a.geometry.now (dropped (asked_of a.asked.now) (last_of a.store.now.table.plan.lists))) (sym sizes)
    (dropped_laid (g.S.Shelf.sizes a.shelf.now) a.geometry.now (asked_of a.asked.now) (last_of a.store.now.table.plan.lists) c.requires.asked.placed))

-- The drives on which a call failed in both records.
first_lost : (g : _) (c : After-wipe_each g) → AreLostBy (DriveFailures g.S.Shelf c.form.new.shelf c.list_both.new.shelf) no_drives c.list_both.new.lost
first_lost g c = subst (λ (ds : Drives). AreLostBy (DriveFailures g.S.Shelf c.form.new.shelf c.list_both.new.shelf) ds c.list_both.new.lost) c.new-lost.ensures.is c.in_ok-list_both.ensures.lost.by

last_lost : (g : _) (c : After-wipe_each g) → AreLostBy (DriveFailures g.S.Shelf c.args.shelf.now c.list_last.new.shelf) no_drives c.list_last.new.lost
last_lost g c =
    lost_then g.S.Shelf c.args.shelf.now c.list_both.new.shelf c.list_last.new.shelf no_drives c.list_both.new.lost c.list_last.new.lost
    (lost_calm g.S.Shelf c.args.shelf.now c.form.new.shelf c.list_both.new.shelf no_drives c.list_both.new.lost c.in_ok-form.ensures.gone.calm (first_lost g c)) c.in_ok-list_last.ensures.lost.by

wiped_by : (g : _) (c : After-wipe_each g) → wipe_order c.list_beside-dropped.result ≡ dropped (asked_of c.args.asked.now) (last_of c.args.store.now.table.plan.lists)
    → WereWiped g.S.Shelf c.args.geometry.now c.list_last.new.shelf c.wipe_each.new.shelf (dropped (asked_of c.args.asked.now) (last_of c.args.store.now.table.plan.lists)) c.list_last.new.lost c.wipe_each.new.lost c.wipe_each.result
wiped_by g c places =
    subst (λ (ps : List Place). WereWiped g.S.Shelf c.args.geometry.now c.list_last.new.shelf c.wipe_each.new.shelf ps c.list_last.new.lost c.wipe_each.new.lost c.wipe_each.result)
    (c.as_slice-5.ensures ∙ c.wipe_order-ordered.ensures ∙ ap wipe_order c.as_slice-4.ensures ∙ places) c.wipe_each.ensures

-- Done.
pub returns-clause-answer : goal.returns-clause-answer
returns-clause-answer g c =
    let a = c.args in
    let h = (goal.at.returns-clause-answer g c).After-form in
    let w = (goal.at.returns-clause-answer g c).After-wipe_each in
    let first = first_by g h c.list_both.new.shelf c.list_both.new.store (Ok tt) c.in_ok-list_both.ensures.listed in
    let wiped = wiped_by g w (beside_is g h) in
    moved g.S.Shelf a.shelf.now c.form.new.shelf c.list_both.new.shelf a.geometry.now a.store.now c.list_both.new.store (asked_of a.asked.now) c.requires.asked (checked g h) c.requires.laid c.in_ok-form.ensures.gone first c.list_last.new.shelf c.list_last.new.store c.wipe_each.new.shelf
    c.list_last.new.lost c.wipe_each.new.lost c.wipe_each.result c.in_ok-list_last.ensures.listed (last_lost g w) wiped
    (moved_shown g.S.Shelf a.shelf.now a.geometry.now a.store.now (asked_of a.asked.now) c.requires.asked (checked g h) c.requires.asked.sound c.form.new.shelf c.in_ok-form.ensures.gone c.list_both.new.shelf c.list_both.new.store first c.list_last.new.shelf c.list_last.new.store c.in_ok-list_last.ensures.listed
    c.wipe_each.new.shelf c.list_last.new.lost c.wipe_each.new.lost c.wipe_each.result wiped)
    (moved_blanked g.S.Shelf a.shelf.now a.geometry.now a.store.now (asked_of a.asked.now) c.requires.asked (checked g h) c.requires.asked.sound c.form.new.shelf c.in_ok-form.ensures.gone c.list_both.new.shelf c.list_both.new.store first c.list_last.new.shelf c.list_last.new.store c.in_ok-list_last.ensures.listed
    c.wipe_each.new.shelf c.list_last.new.lost c.wipe_each.new.lost c.wipe_each.result wiped (last_lost g w))

pub returns-clause-counted : goal.returns-clause-counted
returns-clause-counted g c =
    let a = c.args in
    let o = a.store.now in
    let h = (goal.at.returns-clause-counted g c).After-form in
    let w = (goal.at.returns-clause-counted g c).After-wipe_each in
    let first = first_by g h c.list_both.new.shelf c.list_both.new.store (Ok tt) c.in_ok-list_both.ensures.listed in
    let wiped = wiped_by g w (beside_is g h) in (
      λ calm. moved_just g.S.Shelf a.shelf.now c.form.new.shelf c.list_both.new.shelf c.list_last.new.shelf c.wipe_each.new.shelf a.geometry.now o c.list_both.new.store c.list_last.new.store (asked_of a.asked.now) c.requires.asked c.in_ok-form.ensures.gone first c.in_ok-list_last.ensures.listed
          c.list_both.new.lost c.list_last.new.lost c.wipe_each.new.lost (first_lost g w) c.in_ok-list_last.ensures.lost.by c.wipe_each.result wiped calm,
      move_between g.S.Shelf a.shelf.now c.form.new.shelf c.list_both.new.shelf c.list_last.new.shelf c.wipe_each.new.shelf a.geometry.now o c.list_both.new.store c.list_last.new.store (asked_of a.asked.now) c.in_ok-form.ensures.gone first c.list_last.new.lost c.wipe_each.new.lost c.wipe_each.result c.in_ok-list_last.ensures.listed wiped,
    )

pub returns-clause-kept : goal.returns-clause-kept
returns-clause-kept g c =
    let a = c.args in
    let o = a.store.now in
    let h = (goal.at.returns-clause-kept g c).After-form in
    let w = (goal.at.returns-clause-kept g c).After-wipe_each in
    let first = first_by g h c.list_both.new.shelf c.list_both.new.store (Ok tt) c.in_ok-list_both.ensures.listed in
    let wiped = wiped_by g w (beside_is g h) in
    moved_kept g.S.Shelf a.shelf.now c.list_last.new.shelf c.wipe_each.new.shelf a.geometry.now o c.list_last.new.store (asked_of a.asked.now) c.requires.asked.sound c.list_last.new.lost c.wipe_each.new.lost (last_lost g w) c.wipe_each.result wiped
    (settled_kept g.S.Shelf a.shelf.now c.form.new.shelf c.list_both.new.shelf c.list_last.new.shelf (g.S.Shelf.sizes a.shelf.now) o c.list_both.new.store c.list_last.new.store (asked_of a.asked.now) c.requires.asked.within c.in_ok-form.ensures.gone first (Ok tt) c.in_ok-list_last.ensures.listed)

pub returns-clause-moments : goal.returns-clause-moments
returns-clause-moments g c =
    let a = c.args in
    let h = (goal.at.returns-clause-moments g c).After-form in
    let w = (goal.at.returns-clause-moments g c).After-wipe_each in
    let first = first_by g h c.list_both.new.shelf c.list_both.new.store (Ok tt) c.in_ok-list_both.ensures.listed in
    let wiped = wiped_by g w (beside_is g h) in
    moved_told g.S.Shelf a.shelf.now a.geometry.now a.store.now (asked_of a.asked.now) c.requires.asked (checked g h) c.requires.asked.sound c.form.new.shelf c.in_ok-form.ensures.gone c.list_both.new.shelf c.list_both.new.store first c.list_last.new.shelf c.list_last.new.store c.in_ok-list_last.ensures.listed
    c.wipe_each.new.shelf c.list_last.new.lost c.wipe_each.new.lost c.wipe_each.result wiped

pub returns-clause-end : goal.returns-clause-end
returns-clause-end g c =
    let a = c.args in
    let h = (goal.at.returns-clause-end g c).After-form in
    let w = (goal.at.returns-clause-end g c).After-wipe_each in
    let first = first_by g h c.list_both.new.shelf c.list_both.new.store (Ok tt) c.in_ok-list_both.ensures.listed in
    let wiped = wiped_by g w (beside_is g h) in
    moved_end g.S.Shelf a.shelf.now a.geometry.now a.store.now (asked_of a.asked.now) c.requires.asked (checked g h) c.requires.asked.sound c.form.new.shelf c.in_ok-form.ensures.gone c.list_both.new.shelf c.list_both.new.store first c.list_last.new.shelf c.list_last.new.store c.in_ok-list_last.ensures.listed
    c.wipe_each.new.shelf c.list_last.new.lost c.wipe_each.new.lost c.wipe_each.result wiped
