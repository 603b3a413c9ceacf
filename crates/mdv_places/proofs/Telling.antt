-- What a shelf tells of a change of places: its moments, and its end.
use Rattle.std.proofs.Common.{◌≡◌, inl, inr, ℕ, Bool, false, List, Contains, None, Result, Ok, Err, refl, sym, subst}
use Rattle.mdv_acts.specs.Acts.{AreDoing, AreDone, HaveGone, HaveStopped}
use Rattle.mdv_acts.specs.Wipes.{AreLostBy, AreTrying, WereWiped}
use Rattle.mdv_base.specs.DriveSet.{Drives, has_drive, no_drives}
use Rattle.mdv_name.specs.Sound.{IsSound}
use Rattle.mdv_shelf.proofs.Moments.{ends_both, ends_more, moments_after, moments_end, moments_none, moments_weaker}
use Rattle.mdv_shelf.specs.Shelves.{AtEachTale, AtEnd, DriveFailures}
use Rattle.mdv_store.specs.Listing.{IsLast, MayList, WasListed, last_by, seats_in}
use Rattle.mdv_store.specs.Shares.{short_of}
use Rattle.mdv_store.specs.Writing.{WritingEnds, WritingMoment}
use Rattle.mdv_store.specs.declared.seats.Need.TheVariants.{Half}
use Rattle.mdv_places.specs.Asked.{Asks, acts_moved, drives_added, dropped, list_after, lists_after}
use Rattle.mdv_places.specs.Below.{Geometry, Ghosts, IsOpenedAt, One, Opened, Place, PlaceAt, Seat, Share, Tale, last_of, next_mark, settled}
use Rattle.mdv_places.specs.Changing.{MayMove, both_of}
use Rattle.mdv_places.specs.Moments.{AreBlanked, IsMoveEnd, IsShownBy, MoveEnds, MoveMoment, MoveShows, places_dropped}
use Rattle.mdv_places.specs.declared.changing.PlacesFault.TheVariants as unmoved
use Rattle.mdv_places.proofs.Moved.{failed_ends, forming_moment, listed_moment, moved_ends, settled_moment, unbegun_moment, wiped_moment}
use Rattle.mdv_places.proofs.Blanked.{EndsAll, tried_ends}
use Rattle.mdv_places.proofs.Losing.{either_is, lost_failed}
use Rattle.mdv_places.proofs.Moving.{is_last}
use Rattle.mdv_places.proofs.Showing.{added_theirs, both_shown, failed_shown, last_shown, last_theirs, wiped_shown}
use Rattle.mdv_places.proofs.Spotting.{dropped_at}
use Rattle.mdv_places.proofs.Wiping.{lost_at_all}

-- nothing was done
pub none_told : {S : Type 0} (shelf : Ghosts S) (from : S) (g : Geometry) (old : Opened) (asked : Asks) → AtEachTale shelf (MoveMoment g old asked) from from
none_told shelf from g old asked = moments_none (MoveMoment g old asked) (shelf.tale from) (shelf.tale from) refl (unbegun_moment g old asked)

module _ {S : Type 0} (shelf : Ghosts S) (from : S) (g : Geometry) (old : Opened) (asked : Asks) (may : MayMove (shelf.sizes from) g old asked) (checked : MayList old (lists_after asked old.table.plan.lists)) (sound : IsSound g) where
  abbrev sizes : List ℕ
  sizes = shelf.sizes from

  abbrev both : Opened
  both = both_of old asked

  abbrev Moment : Tale → Tale → Type 0
  Moment = MoveMoment g old asked

  forms : (t m : Tale) → AreDoing (acts_moved old asked) t m → Moment t m
  forms t m doing = forming_moment sizes g old asked may checked sound t m doing

  -- a call failed as places were formatted
  module _ (to : S) (stopped : HaveStopped shelf from to (drives_added asked) (acts_moved old asked)) where
    pub stopped_told : AtEachTale shelf Moment from to
    stopped_told = moments_weaker (AreDoing (acts_moved old asked)) Moment (shelf.tale from) (shelf.tale to) forms stopped.moments

    pub stopped_ends : AtEnd shelf (MoveEnds g old old asked (Err unmoved.Failed)) from to
    stopped_ends t is = (let end = moments_end (AreDoing (acts_moved old asked)) (shelf.tale from) (shelf.tale to) stopped.moments t is in (end.0, end.1, λ go. failed_ends sizes g old asked may checked sound t end.0 end.2 go))

    pub stopped_shown : AtEnd shelf (MoveShows g old old asked (Err unmoved.Failed)) from to
    stopped_shown t is = (let end = moments_end (AreDoing (acts_moved old asked)) (shelf.tale from) (shelf.tale to) stopped.moments t is in (end.0, end.1, λ go. failed_shown sizes g old asked may checked sound t go end.0 end.2))

  -- they were formatted, and the table with both lists was written
  module _ (formed : S) (gone : HaveGone shelf from formed (drives_added asked) (acts_moved old asked)) (mid : S) (between : Opened) where
    module _ (result : Result (Unit {0}) Share) (first : WasListed shelf formed mid both between result) where
      pub listed_told : AtEachTale shelf Moment from mid
      listed_told = moments_after (AreDoing (acts_moved old asked)) (AreDone (acts_moved old asked)) (WritingMoment both.seats (next_mark old.mark) both.table) Moment (shelf.tale from) (shelf.tale formed) (shelf.tale mid) forms
          (λ t u m done writing. listed_moment sizes g old asked may checked sound t u done m writing) gone.moments gone.end first.wrote.moments

      pub listed_lost : (new : Opened) (active listed : ℕ) → AtEnd shelf (MoveEnds g old new asked (Err (unmoved.Lost active listed))) from mid
      listed_lost new active listed t is = (let end = moments_end Moment (shelf.tale from) (shelf.tale mid) listed_told t is in (end.0, end.1, λ go. tt))

    -- too few took it, and those that did show it
    pub listed_shown : (share : Share) → WasListed shelf formed mid both between (Err share) → (active listed : ℕ) → AtEnd shelf (MoveShows g old between asked (Err (unmoved.Lost active listed))) from mid
    listed_shown share first active listed = ends_more (AreDone (acts_moved old asked)) (WritingEnds both.seats between.seats (next_mark old.mark) both.table) (MoveShows g old between asked (Err (unmoved.Lost active listed))) (shelf.tale from) (shelf.tale formed) (shelf.tale mid)
        (λ t u v done ends go. inr (
          subst (λ (b : Opened). IsOpenedAt g (record b { mark = next_mark b.mark }) v) (sym first.came.1) (both_shown sizes g old asked may checked sound t go u done (DriveFailures shelf formed mid) between.seats first.wrote.left v ends),
          added_theirs sizes g old asked may checked sound t go u done (DriveFailures shelf formed mid) between.seats first.wrote.left v ends,
        )) gone.end first.wrote.ends

    -- half of each list took it
    module _ (first : WasListed shelf formed mid both between (Ok tt)) where
      abbrev bs : List Seat
      bs = between.seats

      abbrev then_open : Opened
      then_open = record both { mark = next_mark old.mark; seats = bs }

      -- how the second record begins
      pub record IsListed (t v : Tale) : Type 0 where
        pub formed_at : Tale
        pub done : AreDone (acts_moved old asked) t formed_at
        pub ends : WritingEnds both.seats bs (next_mark old.mark) both.table formed_at v
        pub moment : WritingMoment both.seats (next_mark old.mark) both.table formed_at v

      first_ends : AtEnd shelf IsListed from mid
      first_ends = ends_more (AreDone (acts_moved old asked)) (λ u v. WritingEnds both.seats bs (next_mark old.mark) both.table u v × WritingMoment both.seats (next_mark old.mark) both.table u v) IsListed (shelf.tale from) (shelf.tale formed) (shelf.tale mid)
          (λ t u v done both_of_it. record { formed_at = u; done = done; ends = both_of_it.0; moment = both_of_it.1 }) gone.end
          (ends_both (WritingEnds both.seats bs (next_mark old.mark) both.table) (WritingMoment both.seats (next_mark old.mark) both.table) _ (shelf.tale formed) (shelf.tale mid) (λ u v e m. (e, m)) first.wrote.ends
          (moments_end (WritingMoment both.seats (next_mark old.mark) both.table) (shelf.tale formed) (shelf.tale mid) first.wrote.moments))

      half : short_of Half bs both.table.plan.lists ≡ None
      half = subst (λ (b : Opened). short_of Half between.seats b.table.plan.lists ≡ None) first.came.1 first.came.0

      last : IsLast then_open
      last = subst IsLast first.came.1 (is_last sizes g old asked may checked shelf formed mid between first)

      module _ (over : S) (new : Opened) (result : Result (Unit {0}) Share) (second : WasListed shelf mid over (last_by between) new result) where
        abbrev some : List Seat
        some = seats_in (list_after asked (last_of old.table.plan.lists)) bs

        again : WasListed shelf mid over (last_by then_open) new result
        again = subst (λ (b : Opened). WasListed shelf mid over (last_by b) new result) first.came.1 second

        pub settled_told : AtEachTale shelf Moment from over
        settled_told = moments_after Moment IsListed (WritingMoment some (next_mark (next_mark old.mark)) (settled both.table)) Moment (shelf.tale from) (shelf.tale mid) (shelf.tale over) (λ t m so. so)
            (λ t v m listed writing.
            settled_moment sizes g old asked may checked sound t listed.formed_at listed.done (DriveFailures shelf formed mid) bs first.wrote.left half last v listed.ends listed.moment m writing)
            (listed_told (Ok tt) first) first_ends again.wrote.moments

        pub settled_lost : (active listed : ℕ) → AtEnd shelf (MoveEnds g old new asked (Err (unmoved.Lost active listed))) from over
        settled_lost active listed t is = (let end = moments_end Moment (shelf.tale from) (shelf.tale over) settled_told t is in (end.0, end.1, λ go. tt))

      -- too few took the other, and those that did show it
      pub settled_shown : (over : S) (new : Opened) (share : Share) → WasListed shelf mid over (last_by between) new (Err share) → (active listed : ℕ) → AtEnd shelf (MoveShows g old new asked (Err (unmoved.Lost active listed))) from over
      settled_shown over new share second active listed =
          let twice = again over new (Err share) second in
          ends_more IsListed (WritingEnds (seats_in (list_after asked (last_of old.table.plan.lists)) bs) new.seats (next_mark (next_mark old.mark)) (settled both.table)) (MoveShows g old new asked (Err (unmoved.Lost active listed))) (shelf.tale from) (shelf.tale mid) (shelf.tale over)
          (λ t v w s ends go. inr (
            subst (λ (b : Opened). IsOpenedAt g (record b { mark = next_mark b.mark }) w) (sym twice.came.1)
                (last_shown sizes g old asked may checked sound t go s.formed_at s.done (DriveFailures shelf formed mid) bs first.wrote.left v s.ends half last (DriveFailures shelf mid over) new.seats twice.wrote.left w ends),
            last_theirs sizes g old asked may checked sound t go s.formed_at s.done (DriveFailures shelf formed mid) bs first.wrote.left v s.ends half last (DriveFailures shelf mid over) new.seats twice.wrote.left w ends,
          )) first_ends twice.wrote.ends

      -- half of the new list took the other, and the dropped places were tried
      module _ (over : S) (new : Opened) (second : WasListed shelf mid over (last_by between) new (Ok tt)) where
        abbrev picked : List Seat
        picked = seats_in (list_after asked (last_of old.table.plan.lists)) bs

        abbrev list : List Place
        list = list_after asked (last_of old.table.plan.lists)

        once_more : WasListed shelf mid over (last_by then_open) new (Ok tt)
        once_more = subst (λ (b : Opened). WasListed shelf mid over (last_by b) new (Ok tt)) first.came.1 second

        -- how the wipes begin
        pub record IsSettled (t w : Tale) : Type 0 where
          pub middle : Tale
          pub listed : IsListed t middle
          pub ends : WritingEnds picked new.seats (next_mark (next_mark old.mark)) (settled both.table) middle w
          pub moment : WritingMoment picked (next_mark (next_mark old.mark)) (settled both.table) middle w

        second_ends : AtEnd shelf IsSettled from over
        second_ends = ends_more IsListed (λ v w. WritingEnds picked new.seats (next_mark (next_mark old.mark)) (settled both.table) v w × WritingMoment picked (next_mark (next_mark old.mark)) (settled both.table) v w) IsSettled (shelf.tale from) (shelf.tale mid) (shelf.tale over)
            (λ t v w listed both_of_it. record { middle = v; listed = listed; ends = both_of_it.0; moment = both_of_it.1 }) first_ends
            (ends_both (WritingEnds picked new.seats (next_mark (next_mark old.mark)) (settled both.table)) (WritingMoment picked (next_mark (next_mark old.mark)) (settled both.table)) _ (shelf.tale mid) (shelf.tale over) (λ v w e m. (e, m)) once_more.wrote.ends
            (moments_end (WritingMoment picked (next_mark (next_mark old.mark)) (settled both.table)) (shelf.tale mid) (shelf.tale over) once_more.wrote.moments))

        half_last : short_of Half new.seats (One list) ≡ None
        half_last = subst (λ (b : Opened). short_of Half new.seats b.table.plan.lists ≡ None) once_more.came.1 once_more.came.0

        module _ (to : S) (lost behind : Drives) (clean : Bool) (wiped : WereWiped shelf g over to (dropped asked (last_of old.table.plan.lists)) lost behind clean) where
          pub moved_told : AtEachTale shelf Moment from to
          moved_told = moments_after Moment IsSettled (AreTrying wiped.at) Moment (shelf.tale from) (shelf.tale over) (shelf.tale to) (λ t m so. so)
              (λ t w m s trying.
              wiped_moment sizes g old asked may checked sound t s.listed.formed_at s.listed.done (DriveFailures shelf formed mid) bs first.wrote.left half last s.middle s.listed.ends s.listed.moment
              (DriveFailures shelf mid over) new.seats once_more.wrote.left half_last w s.ends s.moment wiped.at wiped.found m trying)
              (settled_told over new (Ok tt) second) second_ends wiped.tried.moments

          pub moved_end : AtEnd shelf (MoveEnds g old new asked (Ok clean)) from to
          moved_end = ends_more IsSettled (AreTrying wiped.at) (MoveEnds g old new asked (Ok clean)) (shelf.tale from) (shelf.tale over) (shelf.tale to)
              (λ t w m s trying go.
              subst (λ (b : Opened). IsMoveEnd g old b asked (Ok clean) t m) (sym once_more.came.1)
              (moved_ends sizes g old asked may checked sound t s.listed.formed_at s.listed.done (DriveFailures shelf formed mid) bs first.wrote.left half last s.middle s.listed.ends s.listed.moment
              (DriveFailures shelf mid over) new.seats once_more.wrote.left half_last w s.ends s.moment wiped.at wiped.found m trying clean go))
              second_ends (moments_end (AreTrying wiped.at) (shelf.tale over) (shelf.tale to) wiped.tried.moments)

          pub moved_shown : AtEnd shelf (MoveShows g old new asked (Ok clean)) from to
          moved_shown = ends_more IsSettled (AreTrying wiped.at) (MoveShows g old new asked (Ok clean)) (shelf.tale from) (shelf.tale over) (shelf.tale to)
              (λ t w m s trying go.
              subst (λ (b : Opened). IsShownBy g old b asked (Ok clean) t m) (sym once_more.came.1)
              (wiped_shown sizes g old asked may checked sound t go s.listed.formed_at s.listed.done (DriveFailures shelf formed mid) bs first.wrote.left s.middle s.listed.ends half last
              (DriveFailures shelf mid over) new.seats once_more.wrote.left w s.ends half_last wiped.at wiped.found m trying clean))
              second_ends (moments_end (AreTrying wiped.at) (shelf.tale over) (shelf.tale to) wiped.tried.moments)

          -- and the masters of those that were wiped are blank
          module _ (failed : AreLostBy (DriveFailures shelf from over) no_drives lost) where
            free_at : (a : PlaceAt) → ((DriveFailures shelf from to a.drive.0).some → ⊥) → has_drive behind a.drive ≡ false
            free_at a never = elim (either_is (has_drive behind a.drive)) [
              | inl so ↦ absurd (never (lost_failed (DriveFailures shelf from to) behind (lost_at_all shelf from over to g old new asked sound lost behind failed clean wiped) a.drive so))
              | inr none ↦ none
            ]

            one_of : (a : PlaceAt) → Contains (places_dropped g old asked) a → Contains wiped.at a
            one_of a has = subst (λ (l : List PlaceAt). Contains l a) (dropped_at g old asked sound wiped.at wiped.found) has

            pub moved_blanked : AtEnd shelf (λ t u. AreBlanked (DriveFailures shelf from to) g old asked clean u) from to
            moved_blanked = ends_more IsSettled (EndsAll shelf wiped.at behind clean) (λ t u. AreBlanked (DriveFailures shelf from to) g old asked clean u) (shelf.tale from) (shelf.tale over) (shelf.tale to)
                (λ t w m s ends. record { all = λ so a has. ends.1 a (one_of a has) (inl so); each = λ a has never. ends.1 a (one_of a has) (inr (free_at a never)) })
                second_ends (tried_ends shelf wiped.at over to lost behind clean wiped.tried.steps)
