-- A change of places from its formation on: the two records, and the wipes.
use Rattle.std.proofs.Common.{◌≡◌, inl, inr, ℕ, true, List, [], Option, Some, None, refl, sym, ◌∙◌, ap, subst, arith}
use Rattle.std.proofs.lemmas.List.Elements.{Contains-append_left}
use Rattle.mdv_standing.specs.Committing.{MayListNext}
use Rattle.mdv_standing.proofs.Tracing.{trace_weaker}
use Rattle.mdv_store_law.specs.Log.{IsNewestTellable, Version, Writing, Written, log_after, log_after_all}
use Rattle.mdv_store.specs.Below.{Everywhere, Failures, IsNewest, Site}
use Rattle.mdv_store.specs.Commit.{AnyLog, AnyWorld, IsCommittedTo, IsNewestWritten}
use Rattle.mdv_store.specs.Listing.{IsLast, MayList, seats_in}
use Rattle.mdv_store.specs.Opened.{AreSeatsOf, IsOpenedAt}
use Rattle.mdv_store.specs.Records.{Spells}
use Rattle.mdv_store.specs.Seats.{spot_of}
use Rattle.mdv_store.specs.Shares.{short_of}
use Rattle.mdv_store.specs.Writing.{WritingEnds, WritingMoment, text_size}
use Rattle.mdv_store.specs.declared.seats.Need.TheVariants.{Half}
use Rattle.mdv_store.proofs.Marks.{left_none_above, slot_stays}
use Rattle.mdv_store.proofs.Passes.{left_spots}
use Rattle.mdv_store.proofs.Relisting.{last_seats}
use Rattle.mdv_store.proofs.Shares.{some_enough}
use Rattle.mdv_store.proofs.Sitting.{left_seats, replica_of, seat_of, some_active}
use Rattle.mdv_store.proofs.Telling.{newest_tellable}
use Rattle.mdv_store_law.proofs.Parts.{part_of_part}
use Rattle.mdv_store_law.specs.Part.{IsPart}
use Rattle.mdv_config.proofs.Settled.{settled_of}
use Rattle.mdv_places.specs.Asked.{Asks, list_after, lists_after, seats_added}
use Rattle.mdv_places.specs.Below.{AreLeft, Change, Core, Event, Geometry, IsReadyWith, Log, Mark, One, Opened, Place, Seat, Table, TakesSlot, Tale, asks_of, beside, last_of, next_mark, settled, site_of, spots_of}
use Rattle.mdv_places.specs.Changing.{MayMove, both_of}
use Rattle.mdv_places.specs.Going.{IsMoving, TracesBy}
use Rattle.mdv_places.specs.Moments.{IsChangeOf, IsLogOf}
use Rattle.mdv_places.proofs.Going.{goes_by, goes_less}
use Rattle.mdv_places.proofs.Moving.{both_seats, is_second, one_list}
use Rattle.mdv_places.proofs.Picking.{picked_held, picked_named, picked_seat, picked_some, picked_spots}
use Rattle.mdv_places.proofs.Recording.{AreRecorded, IsRecordAt, IsRecording, over_newest, record_goes, record_over, record_shown}
use Rattle.mdv_places.proofs.Staying.{HaveAll}
use Rattle.mdv_places.proofs.Stretching.{fewer_places, is_moving}

-- the change that made the newest table may still be told once that one's list of places is the only one
settled_tellable : (log : Log) (mark next : Mark) (table made : Table) (n : IsNewest log mark table) (change : Change) → IsNewestTellable log (Some change) → IsNewestTellable (log_after (log_after log (Writing next None n.version.changes made)) Written) (Some change)
settled_tellable log mark next table made n change told =
    let same : n.version ≡ told.may.newest = cc (n.family, told.may.family) in
    record {
      before = told.before;
      may = record {
        lives = refl;
        newest = record { mark = next; table = made; changes = n.version.changes; is_written = true };
        older = log.family;
        family = refl;
        written = refl;
        later = told.may.later;
        changes = ap (λ (v : Version). v.changes) same ∙ told.may.changes;
        creation = told.may.creation;
        untold = told.may.untold;
      };
      newest = told.newest;
    }

module _ (sizes : List ℕ) (g : Geometry) (old : Opened) (asked : Asks) (may : MayMove sizes g old asked) (checked : MayList old (lists_after asked old.table.plan.lists)) where
  abbrev both : Opened
  both = both_of old asked

  abbrev was : List Place
  was = last_of old.table.plan.lists

  abbrev list : List Place
  list = list_after asked was

  abbrev site : Site
  site = site_of g old.key

  -- The table with both lists is written.
  pub both_recording : IsRecording old.mark both.table both.seats
  both_recording = record {
    of = both_seats sizes g old asked may checked;
    boot = checked.boot;
    small = (let small = checked.small in omega (arith, small));
    some =
        let one = some_active old.seats (some_enough Half old.seats old.table checked.seats checked.half) in
        let s = seat_of old.seats one.0 one.1 in
        (one.0, replica_of both.seats s.0 one.0 (Contains-append_left old.seats (seats_added old asked) s.0 s.1) s.2);
    none_above = (is_second sizes g old asked may checked).marks;
    fits = checked.fits;
  }

  abbrev TracesOn : (Log → Type 0) → List (Option Change) → (Core → Type 0) → (List Event → Type 0) → (Core → Type 0) → (Log → Type 0) → Tale → Tale → Type 0
  TracesOn = TracesBy (IsMoving asked) (Spells g) g site old.identity

  abbrev Ready : List Seat → Core → Type 0
  Ready seats = IsReadyWith (spots_of seats)

  -- what the formation leaves
  module _ (u : Tale) (at : IsRecordAt g old.key old.identity both.table both.seats u) (have : Everywhere (HaveAll g old.key old.identity (beside was list)) u) where
    -- a second list comes
    lists_next : (log : Log) (known : IsNewestWritten log old.mark old.table) → Everywhere (MayListNext (Spells g) site old.identity known.newest.version both.table) u
    lists_next log known image is = inr (known.written, record { old = was; new = list; one = ap (λ (t : Table). t.plan.lists) known.newest.same ∙ one_list sizes g old asked may checked; two = refl; have = λ place has. have image is place has })

    module _ (change : Change) (made : IsChangeOf g old asked change) where
      pub both_traces : (m : Tale) → WritingMoment both.seats (next_mark old.mark) both.table u m → TracesOn (IsLogOf g old) (asks_of (Some change)) (Ready old.seats) (AreRecorded site both.table (spots_of both.seats)) AnyWorld AnyLog u m
      both_traces m writing log covers known =
          goes_by (Spells g) g site old.identity (IsMoving asked) (asks_of (Some change)) (Ready old.seats) (AreRecorded site both.table (spots_of both.seats)) AnyWorld AnyLog u m log (is_moving asked)
          (record_goes g old.key old.identity old.mark both.table both.seats both_recording u at old.table (spots_of old.seats) (Some change) log covers known.newest.newest made (inr known.newest.written) (lists_next log known.newest) m writing)

  -- Half of each list took it.
  module _ (failed : ℕ → Failures) (bs : List Seat) (left : AreLeft failed (TakesSlot (next_mark old.mark) (text_size both.table)) both.seats bs) (half : short_of Half bs both.table.plan.lists ≡ None) where
    abbrev pub between : Opened
    between = record both { mark = next_mark old.mark; seats = bs }

    abbrev pub picks : List Seat
    picks = seats_in list bs

    pub bs_are : AreSeatsOf both.table bs
    bs_are = left_seats failed (TakesSlot (next_mark old.mark) (text_size both.table)) both.table both.table both.seats bs (slot_stays (next_mark old.mark) (text_size both.table)) refl left both_recording.of

    module _ (last : IsLast between) where
      -- The table with the new list alone is written.
      pub last_recording : IsRecording (next_mark old.mark) (settled both.table) picks
      last_recording = record {
        of = last_seats between bs_are last;
        boot = checked.boot;
        small = last.small;
        some = picked_some both.table bs bs_are last.some may.few half;
        none_above = λ r has. (let s = picked_seat list bs r has in left_none_above failed old.mark (text_size both.table) both.seats bs left (is_second sizes g old asked may checked).marks r (replica_of bs s.0 r s.1 s.2));
        fits = last.fits;
      }

      -- its places are some of all
      picks_part : IsPart (spots_of picks) (spots_of both.seats)
      picks_part = part_of_part (spots_of picks) (spots_of bs) (spots_of both.seats) (picked_spots list bs)
          (left_spots failed (TakesSlot (next_mark old.mark) (text_size both.table)) both.seats bs (λ r m took. ap spot_of took.2) left)

      module _ (u v : Tale) (at : IsRecordAt g old.key old.identity both.table both.seats u) (ends : WritingEnds both.seats bs (next_mark old.mark) both.table u v) where
        between_at : IsOpenedAt g between v
        between_at = record_shown g old.key old.identity old.mark both.table both.seats both_recording u at failed bs left v ends

        pub last_at : IsRecordAt g old.key old.identity (settled both.table) picks v
        last_at = record {
          sound = at.sound;
          of_geometry = settled_of g both.table at.of_geometry;
          held = picked_held g old.key old.identity at.sound bs list v between_at.held;
          named = picked_named g old.key old.identity at.sound bs list v between_at.held both.table refl bs_are.at;
        }

        module _ (have : Everywhere (HaveAll g old.key old.identity (beside was list)) u) (change : Change) (made : IsChangeOf g old asked change) where
          pub both_over : TracesOn (IsLogOf g old) (asks_of (Some change)) (Ready old.seats) (AreRecorded site both.table (spots_of both.seats)) (Ready bs) (IsCommittedTo g between (Some change)) u v
          both_over log covers known =
              let n = known.newest in
              let lists = lists_next u at have log n in
              let goes = record_over g old.key old.identity old.mark both.table both.seats both_recording u at old.table (spots_of old.seats) (Some change) log covers n.newest made (inr n.written) lists bs v ends bs_are half in
              let newest = over_newest g old.key old.identity old.mark both.table both.seats both_recording u at old.table (spots_of old.seats) (Some change) log covers n.newest made (inr n.written) lists bs v ends bs_are half in
              goes_by (Spells g) g site old.identity (IsMoving asked) (asks_of (Some change)) (Ready old.seats) (AreRecorded site both.table (spots_of both.seats)) (Ready bs) (IsCommittedTo g between (Some change)) u v log (is_moving asked)
              (record {
                es = goes.es;
                course = goes.course;
                come = goes.come;
                traces = goes.traces;
                after = subst (IsCommittedTo g between (Some change)) (sym goes.after) (record {
                  newest = newest;
                  tellable = λ c is. newest_tellable g log old.mark old.table n.newest (next_mark old.mark) change both.table known.is_log;
                });
              })

      -- from there on
      module _ (v : Tale) (at : IsRecordAt g old.key old.identity (settled both.table) picks v) where
        follows : (l : Log) (n : IsNewestWritten l (next_mark old.mark) both.table) → Everywhere (MayListNext (Spells g) site old.identity n.newest.version (settled both.table)) v
        follows l n image is = inl (inr (ap (λ (t : Table). One (last_of t.plan.lists)) (sym n.newest.same)))

        pub last_traces : (change : Change) (m : Tale) → WritingMoment picks (next_mark (next_mark old.mark)) (settled both.table) v m
            → TracesOn (IsCommittedTo g between (Some change)) [] (Ready bs) (AreRecorded site (settled both.table) (spots_of both.seats)) AnyWorld AnyLog v m
        last_traces change m writing log covers known =
            goes_less (Spells g) g site old.identity (IsMoving asked) [] [] (Ready bs) AnyWorld AnyWorld (AreRecorded site (settled both.table) (spots_of picks)) (AreRecorded site (settled both.table) (spots_of both.seats)) AnyLog AnyLog v m log tt
            (λ es run. fewer_places site (settled both.table) (spots_of picks) (spots_of both.seats) es picks_part run) (λ w so. so) (λ l so. so)
            (goes_by (Spells g) g site old.identity (IsMoving asked) [] (Ready bs) (AreRecorded site (settled both.table) (spots_of picks)) AnyWorld AnyLog v m log (is_moving asked)
            (record_goes g old.key old.identity (next_mark old.mark) (settled both.table) picks last_recording v at both.table (spots_of bs) None log covers known.newest.newest (inr refl) (inr known.newest.written) (follows log known.newest) m writing))

        -- Half of the new list took it.
        module _ (lost : ℕ → Failures) (ns : List Seat) (left_last : AreLeft lost (TakesSlot (next_mark (next_mark old.mark)) (text_size (settled both.table))) picks ns) (half_last : short_of Half ns (One list) ≡ None)
            (w : Tale) (ends : WritingEnds picks ns (next_mark (next_mark old.mark)) (settled both.table) v w) where
          abbrev pub after : Opened
          after = record { key = old.key; identity = old.identity; mark = next_mark (next_mark old.mark); table = settled both.table; seats = ns }

          pub ns_are : AreSeatsOf (settled both.table) ns
          ns_are = left_seats lost (TakesSlot (next_mark (next_mark old.mark)) (text_size (settled both.table))) (settled both.table) (settled both.table) picks ns (slot_stays (next_mark (next_mark old.mark)) (text_size (settled both.table))) refl left_last last_recording.of

          pub after_at : IsOpenedAt g after w
          after_at = record_shown g old.key old.identity (next_mark old.mark) (settled both.table) picks last_recording v at lost ns left_last w ends

          pub last_over : (change : Change) → TracesOn (IsCommittedTo g between (Some change)) [] (Ready bs) (AreRecorded site (settled both.table) (spots_of both.seats)) (Ready ns) (IsCommittedTo g after (Some change)) v w
          last_over change log covers known =
              let n = known.newest in
              let goes = record_over g old.key old.identity (next_mark old.mark) (settled both.table) picks last_recording v at both.table (spots_of bs) None log covers n.newest (inr refl) (inr n.written) (follows log n) ns w ends ns_are half_last in
              let newest = over_newest g old.key old.identity (next_mark old.mark) (settled both.table) picks last_recording v at both.table (spots_of bs) None log covers n.newest (inr refl) (inr n.written) (follows log n) ns w ends ns_are half_last in
              goes_by (Spells g) g site old.identity (IsMoving asked) [] (Ready bs) (AreRecorded site (settled both.table) (spots_of both.seats)) (Ready ns) (IsCommittedTo g after (Some change)) v w log (is_moving asked)
              (record {
                es = goes.es;
                course = goes.course;
                come = goes.come;
                traces = trace_weaker (Spells g) site old.identity log (log_after_all log goes.es) (Ready bs) (Ready bs) (Ready ns) (Ready ns) (AreRecorded site (settled both.table) (spots_of picks)) (AreRecorded site (settled both.table) (spots_of both.seats)) v w (λ x so. so)
                    (λ es run. fewer_places site (settled both.table) (spots_of picks) (spots_of both.seats) es picks_part run) (λ x so. so) goes.traces;
                after = subst (IsCommittedTo g after (Some change)) (sym goes.after) (record {
                  newest = newest;
                  tellable = λ c is. settled_tellable log (next_mark old.mark) (next_mark (next_mark old.mark)) both.table (settled both.table) n.newest change (known.tellable change refl);
                });
              })
