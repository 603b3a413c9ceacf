-- A change of places by each moment of it, and in the end.
use Rattle.std.proofs.Common.{◌≡◌, inl, inr, ℕ, Bool, false, List, [], ◌++◌, Contains, Some, None, Ok, refl, sym, ◌∙◌, ap, subst, arith}
use Rattle.std.proofs.lemmas.Bool.{or_parts}
use Rattle.std.specs.List.{list_any}
use Rattle.std.proofs.lemmas.List.Elements.{Contains-append_left, Contains-append_right}
use Rattle.mdv_acts.specs.Acts.{AreDoing, AreDone}
use Rattle.mdv_acts.specs.Wipes.{AreFoundAt, AreTrying}
use Rattle.mdv_acts.proofs.Acting.{doing_here}
use Rattle.mdv_look.specs.Quiet.{IsQuiet}
use Rattle.mdv_look.proofs.Quiet.{quiet_more, quiet_same, quiet_wider}
use Rattle.mdv_name.specs.Sound.{IsSound}
use Rattle.mdv_standing.specs.Rest.{RestMayBeTaken}
use Rattle.mdv_standing.proofs.Tracing.{trace_here, traced}
use Rattle.mdv_store_law.proofs.Parts.{part_itself}
use Rattle.mdv_store_law.specs.Log.{log_after_all}
use Rattle.mdv_store.specs.Below.{Everywhere, Failures}
use Rattle.mdv_store.specs.Blank.{StayBlank}
use Rattle.mdv_store.specs.Commit.{AnyLog, AnyWorld, IsCommittedTo}
use Rattle.mdv_store.specs.Listing.{IsLast, MayList, seats_in}
use Rattle.mdv_store.specs.Records.{Spells}
use Rattle.mdv_store.specs.Seats.{replica_area}
use Rattle.mdv_store.specs.Shares.{short_of}
use Rattle.mdv_store.specs.Writing.{WritingEnds, WritingMoment, text_size}
use Rattle.mdv_store.specs.declared.seats.Need.TheVariants.{Half}
use Rattle.mdv_store.proofs.Acted.{acts_quiet}
use Rattle.mdv_store.proofs.Again.{none_all, none_of}
use Rattle.mdv_store.proofs.Blanks.{stay_blank, still_blank}
use Rattle.mdv_store.proofs.Doing.{doing_end}
use Rattle.mdv_store.proofs.Sitting.{left_replica, replica_of, seat_of}
use Rattle.mdv_places.specs.Asked.{Adds, AreAskedOn, Asks, Drops, KeepsFirst, acts_moved, dropped, list_after, lists_after, places_asked, seats_added}
use Rattle.mdv_places.specs.Below.{Area, AreLeft, Change, Database, Geometry, IsOpenedAt, IsReadyWith, Lists, Mark, One, Opened, Place, PlaceAt, Replica, RestStands, Seat, SliceLine, TakesSlot, Tale, asks_of, last_of, next_mark, places_of, replicas_of, seats_area, seats_asked, settled, site_of, spots_of}
use Rattle.mdv_places.specs.Changing.{MayMove, both_of}
use Rattle.mdv_places.specs.Moments.{AreOfMove, IsChangeOf, IsLogOf, IsMoveEnd, MayGo, MayShow, MoveGoes, MoveMoment, RestMay, StandsOpen, WereListed, area_moved, master_area}
use Rattle.mdv_places.proofs.Adding.{claims_area}
use Rattle.mdv_places.proofs.Composing.{after_at, both_over, bs_are, both_recording, both_traces, last_at, last_over, last_recording, last_traces, ns_are}
use Rattle.mdv_places.proofs.Dropping.{dropped_one}
use Rattle.mdv_places.proofs.Emptying.{AreWipes, wipes_quiet}
use Rattle.mdv_places.proofs.Formation.{IsFormedTo, IsFormingAt, formed_at, forming_at}
use Rattle.mdv_places.proofs.Freeing.{freed_blank, freed_opened, freed_rest, freed_traces}
use Rattle.mdv_places.proofs.Going.{goes_less}
use Rattle.mdv_places.proofs.Moving.{one_list}
use Rattle.mdv_places.proofs.Picking.{picked_are, picked_seat}
use Rattle.mdv_places.proofs.Recording.{AreRecorded, IsRecordAt, bodies, record_blank, record_rest}
use Rattle.mdv_places.proofs.Spotting.{dropped_at, listed_not}
use Rattle.mdv_places.proofs.Staying.{HaveAll, have_open, have_passed, taken_passed}
use Rattle.mdv_places.proofs.Stretching.{AreBoth, AreFormed, AreLast, both_alone, both_then, last_alone, last_wiped, move_formed, move_then, traces_then}

-- a change that may go on may be shown
may_show : (g : Geometry) (old : Opened) (asked : Asks) (t : Tale) → MayGo g old asked t → MayShow g old asked t
may_show g old asked t go = record { opened = go.opened; of_geometry = go.of_geometry; sites = go.sites; front = go.front }

-- Nothing was done.
pub unbegun_moment : (g : Geometry) (old : Opened) (asked : Asks) (t : Tale) → MoveMoment g old asked t t
unbegun_moment g old asked t = record {
  quiet = quiet_same (area_moved g old asked) t;
  only = inl (doing_here (acts_moved old asked) t);
  goes = λ change go made log covers known. record {
    es = [];
    course = tt;
    come = record { tells = refl; issues = tt; begins = tt };
    traces = trace_here (Spells g) (site_of g old.key) old.identity log log (λ w. IsReadyWith (spots_of old.seats) w) (AreOfMove g old asked) AnyWorld t
        (λ w image is world ready. record { events = []; are = move_formed g old asked [] (λ e has. absurd (omega (arith, has.1))); may = tt; world = world; known = tt });
    after = tt;
  };
  rest = λ all go rest. rest.rest;
  blank = λ go. stay_blank g old.identity t;
}

module _ (sizes : List ℕ) (g : Geometry) (old : Opened) (asked : Asks) (may : MayMove sizes g old asked) (checked : MayList old (lists_after asked old.table.plan.lists)) (sound : IsSound g) (t : Tale) where
  abbrev both : Opened
  both = both_of old asked

  abbrev was : List Place
  was = last_of old.table.plan.lists

  abbrev list : List Place
  list = list_after asked was

  abbrev area : Area
  area = area_moved g old asked

  abbrev first_mark : Mark
  first_mark = next_mark old.mark

  abbrev last_mark : Mark
  last_mark = next_mark (next_mark old.mark)

  abbrev Moment : Tale → Type 0
  Moment = MoveMoment g old asked t

  in_area : (m : Tale) (u : Tale) → IsQuiet (seats_area both.seats) u m → IsQuiet area u m
  in_area m u quiet = quiet_wider (seats_area both.seats) area u m (λ drive block out. (or_parts _ _ out).0) quiet

  -- nothing but the added places is formatted
  formed_quiet : (m : Tale) → AreDoing (acts_moved old asked) t m → IsQuiet (seats_area both.seats) t m
  formed_quiet = by asked may.within where
    added_out : (move : Asks) (drive block : ℕ) → seats_area (old.seats ++ seats_added old move) drive block ≡ false → seats_area (seats_added old move) drive block ≡ false
    added_out move drive block out = none_all (λ (r : Replica). replica_area r drive block) (replicas_of (seats_added old move)) (λ r has.
        let s = seat_of (seats_added old move) r has in
        none_of (λ (x : Replica). replica_area x drive block) (replicas_of (old.seats ++ seats_added old move)) r out (replica_of (old.seats ++ seats_added old move) s.0 r (Contains-append_right old.seats (seats_added old move) s.0 s.1) s.2))

    by : (move : Asks) → AreAskedOn sizes move → (m : Tale) → AreDoing (acts_moved old move) t m → IsQuiet (seats_area (old.seats ++ seats_added old move)) t m
    by (Adds lines count blocks) within m is = quiet_wider (seats_area (seats_asked old.key old.identity lines count blocks)) (seats_area (old.seats ++ seats_added old (Adds lines count blocks))) t m
        (λ drive block out. sym (claims_area old.mark.boot (seats_asked old.key old.identity lines count blocks) drive block) ∙ added_out (Adds lines count blocks) drive block out)
        (acts_quiet old.key old.identity lines count blocks old.mark.boot within.least within.more t m is)
    by (Drops slices) within m is = subst (IsQuiet (seats_area (old.seats ++ [])) t) (sym is) (quiet_same (seats_area (old.seats ++ [])) t)
    by KeepsFirst within m is = subst (IsQuiet (seats_area (old.seats ++ [])) t) (sym is) (quiet_same (seats_area (old.seats ++ [])) t)

  -- Places are formatted.
  module _ (m : Tale) (doing : AreDoing (acts_moved old asked) t m) where
    forms : MayGo g old asked t → IsFormingAt g old asked t m
    forms go = forming_at sizes g old asked t may checked (may_show g old asked t go) m doing

    pub forming_moment : Moment m
    forming_moment = record {
      quiet = in_area m t (formed_quiet m doing);
      only = inl doing;
      goes = λ change go made log covers known.
          goes_less (Spells g) g (site_of g old.key) old.identity _ [] (asks_of (Some change)) (λ w. IsReadyWith (spots_of old.seats) w) (λ w. IsReadyWith (spots_of old.seats) w) AnyWorld (AreFormed g old asked) _ (IsLogOf g old) AnyLog t m log tt
          (λ es formed. move_formed g old asked es formed) (λ w so. tt) (λ l so. tt) ((forms go).goes log covers known);
      rest = λ all go rest. (forms go).rest all rest;
      blank = λ go. (forms go).blank;
    }

    pub failed_ends : MayGo g old asked t → IsOpenedAt g old m × MoveGoes g old asked [] (λ w. IsReadyWith (spots_of old.seats) w) (IsLogOf g old) t m
    failed_ends go = (
      (forms go).opened,
      λ log covers known.
          goes_less (Spells g) g (site_of g old.key) old.identity _ [] [] (λ w. IsReadyWith (spots_of old.seats) w) (λ w. IsReadyWith (spots_of old.seats) w) (λ w. IsReadyWith (spots_of old.seats) w) (AreFormed g old asked) _ (IsLogOf g old) (IsLogOf g old) t m log tt
          (λ es formed. move_formed g old asked es formed) (λ w so. so) (λ l so. so) ((forms go).goes log covers known),
    )

  -- The places were formatted.
  module _ (u : Tale) (done : AreDone (acts_moved old asked) t u) where
    formed : MayGo g old asked t → IsFormedTo g old asked t u
    formed go = formed_at sizes g old asked t may checked (may_show g old asked t go) u done

    formed_still : IsQuiet area t u
    formed_still = in_area u t (formed_quiet u (doing_end (acts_moved old asked) t u done))

    recorded : MayGo g old asked t → IsRecordAt g old.key old.identity both.table both.seats u
    recorded go = record { sound = go.opened.sound; of_geometry = go.of_geometry; held = (formed go).held; named = (formed go).named }

    -- the database still stands with a log of the open table
    stands_still : MayGo g old asked t → StandsOpen g old u
    stands_still go =
        let s = go.stands in
        let goes = (formed go).forming.goes s.log s.covers s.is in
        record {
          log = log_after_all s.log goes.es;
          covers = traced (Spells g) (site_of g old.key) old.identity s.log (log_after_all s.log goes.es) (λ w. IsReadyWith (spots_of old.seats) w) (AreFormed g old asked) (λ w. IsReadyWith (spots_of old.seats) w) t u s.covers goes.traces;
          is = goes.after;
        }

    have_still : MayGo g old asked t → Everywhere (HaveAll g old.key old.identity was) u
    have_still go = subst (λ (l : Lists). Everywhere (HaveAll g old.key old.identity (places_of l)) u) (one_list sizes g old asked may checked) (have_open g old u (stands_still go))

    -- what may be taken on the slices of the dropped places
    taken_still : (all : List Database) → MayGo g old asked t → RestMay g all old asked t → (p : Place) (line : SliceLine) → Contains (dropped asked was) p → Contains (site_of g old.key).lines line → p.slice ≡ line.name
        → RestMayBeTaken (Spells g) g all old.identity line u
    taken_still all go rest p line gone looks same = by asked gone done (rest.dropped p line gone looks same) where
      by : (move : Asks) → Contains (dropped move was) p → AreDone (acts_moved old move) t u → RestMayBeTaken (Spells g) g all old.identity line t → RestMayBeTaken (Spells g) g all old.identity line u
      by (Adds lines count blocks) out d taken = absurd (listed_not g sound old.key old.identity was u (have_still go) (Adds lines count blocks) p out
          (Contains-append_left was (places_asked lines count blocks) p (dropped_one (Adds lines count blocks) was p out)))
      by (Drops slices) out d taken = subst (RestMayBeTaken (Spells g) g all old.identity line) (sym d) taken
      by KeepsFirst out d taken = subst (RestMayBeTaken (Spells g) g all old.identity line) (sym d) taken

    -- The table with both lists is written.
    module _ (m : Tale) (writing : WritingMoment both.seats first_mark both.table u m) where
      listed_still : IsQuiet area t m
      listed_still = quiet_more area t u m formed_still (in_area m u writing.slotting.quiet)

      listed_rest : (all : List Database) → MayGo g old asked t → RestMay g all old asked t → RestStands (Spells g) g all old.identity m
      listed_rest all go rest = record_rest g old.key old.identity old.mark both.table both.seats (both_recording sizes g old asked may checked) u (recorded go) m writing all ((formed go).forming.rest all rest)

      listed_blank : MayGo g old asked t → StayBlank g old.identity t m
      listed_blank go = still_blank g old.identity t u m (formed go).forming.blank (record_blank g old.key old.identity old.mark both.table both.seats (both_recording sizes g old asked may checked) u (recorded go) m writing)

      pub listed_moment : Moment m
      listed_moment = record {
        quiet = listed_still;
        only = inr (inl (u, done, (writing.body, writing.spelled, writing.slotting.passing)));
        goes = λ change go made.
            traces_then _ (Spells g) g (site_of g old.key) old.identity [] (asks_of (Some change)) (IsLogOf g old) (IsLogOf g old) AnyLog (λ w. IsReadyWith (spots_of old.seats) w) (λ w. IsReadyWith (spots_of old.seats) w) AnyWorld (AreFormed g old asked) (AreRecorded (site_of g old.key) both.table (spots_of both.seats)) _ t u m
            (λ es fs first run. move_then g old asked es fs first (both_alone g old asked fs run)) (formed go).forming.goes (both_traces sizes g old asked may checked u (recorded go) (formed go).have change made m writing);
        rest = listed_rest;
        blank = listed_blank;
      }

    -- It was, and half of each list took it.
    module _ (failed : ℕ → Failures) (bs : List Seat) (left : AreLeft failed (TakesSlot first_mark (text_size both.table)) both.seats bs) (half : short_of Half bs both.table.plan.lists ≡ None)
        (last : IsLast (record both { mark = first_mark; seats = bs })) (v : Tale) (ends : WritingEnds both.seats bs first_mark both.table u v) (at_end : WritingMoment both.seats first_mark both.table u v) where
      abbrev some : List Seat
      some = seats_in list bs

      abbrev then_open : Opened
      then_open = record both { mark = first_mark; seats = bs }

      last_recorded : MayGo g old asked t → IsRecordAt g old.key old.identity (settled both.table) some v
      last_recorded go = last_at sizes g old asked may checked failed bs left half last u v (recorded go) ends

      -- its places are some of all
      some_area : (drive block : ℕ) → seats_area both.seats drive block ≡ false → seats_area some drive block ≡ false
      some_area drive block out = none_all (λ (r : Replica). replica_area r drive block) (replicas_of some) (λ n has.
          let s = picked_seat list bs n has in
          let one = left_replica failed (TakesSlot first_mark (text_size both.table)) both.seats bs n left (replica_of bs s.0 n s.1 s.2) in
          ap (λ (x : Replica). replica_area x drive block) one.2.2 ∙ none_of (λ (r : Replica). replica_area r drive block) (replicas_of both.seats) one.0 out one.1)

      were_listed : WereListed old asked t v (replicas_of some)
      were_listed = record { formed = u; done = done; took = replicas_of bs; wrote = (ends.body, ends.spelled, ends.slotting.passed); is = sym (picked_are list bs (bs_are sizes g old asked may checked failed bs left half).at) }

      have_listed : MayGo g old asked t → Everywhere (HaveAll g old.key old.identity was) v
      have_listed go = have_passed g go.opened.sound old.key old.identity both.seats first_mark (text_size both.table) ends.body both.table u (recorded go).held
          (bodies g old.key old.identity old.mark both.table both.seats (both_recording sizes g old asked may checked) u (recorded go) ends.body ends.spelled) was v (replicas_of bs, [], ends.slotting.passed) (have_still go)

      taken_listed : (all : List Database) → MayGo g old asked t → RestMay g all old asked t → (p : Place) (line : SliceLine) → Contains (dropped asked was) p → Contains (site_of g old.key).lines line → p.slice ≡ line.name
          → RestMayBeTaken (Spells g) g all old.identity line v
      taken_listed all go rest p line gone looks same = taken_passed g go.opened.sound old.key old.identity both.seats first_mark (text_size both.table) ends.body both.table u (recorded go).held
          (bodies g old.key old.identity old.mark both.table both.seats (both_recording sizes g old asked may checked) u (recorded go) ends.body ends.spelled) all line v (replicas_of bs, [], ends.slotting.passed) (taken_still all go rest p line gone looks same)

      -- The table with the new list alone is written.
      module _ (m : Tale) (writing : WritingMoment some last_mark (settled both.table) v m) where
        settled_still : IsQuiet area t m
        settled_still = quiet_more area t v m (listed_still v at_end) (quiet_wider (seats_area some) area v m (λ drive block out. some_area drive block (or_parts _ _ out).0) writing.slotting.quiet)

        settled_rest : (all : List Database) → MayGo g old asked t → RestMay g all old asked t → RestStands (Spells g) g all old.identity m
        settled_rest all go rest = record_rest g old.key old.identity first_mark (settled both.table) some (last_recording sizes g old asked may checked failed bs left half last) v (last_recorded go) m writing all (listed_rest v at_end all go rest)

        settled_blank : MayGo g old asked t → StayBlank g old.identity t m
        settled_blank go = still_blank g old.identity t v m (listed_blank v at_end go) (record_blank g old.key old.identity first_mark (settled both.table) some (last_recording sizes g old asked may checked failed bs left half last) v (last_recorded go) m writing)

        pub settled_moment : Moment m
        settled_moment = record {
          quiet = settled_still;
          only = inr (inr (inl (v, replicas_of some, were_listed, (writing.body, writing.spelled, writing.slotting.passing))));
          goes = λ change go made.
              traces_then _ (Spells g) g (site_of g old.key) old.identity [] (asks_of (Some change)) (IsLogOf g old) (IsLogOf g old) AnyLog (λ w. IsReadyWith (spots_of old.seats) w) (λ w. IsReadyWith (spots_of old.seats) w) AnyWorld (AreFormed g old asked) (AreBoth g old asked) _ t u m
              (λ es fs first b. move_then g old asked es fs first b) (formed go).forming.goes
              (traces_then _ (Spells g) g (site_of g old.key) old.identity (asks_of (Some change)) [] (IsLogOf g old) (IsCommittedTo g then_open (Some change)) AnyLog (λ w. IsReadyWith (spots_of old.seats) w) (λ w. IsReadyWith (spots_of bs) w) AnyWorld (AreRecorded (site_of g old.key) both.table (spots_of both.seats))
              (AreRecorded (site_of g old.key) (settled both.table) (spots_of both.seats)) (AreBoth g old asked) u v m (λ es fs run other. both_then g old asked es fs run (last_alone g old asked fs other))
              (both_over sizes g old asked may checked failed bs left half last u v (recorded go) ends (formed go).have change made) (last_traces sizes g old asked may checked failed bs left half last v (last_recorded go) change m writing));
          rest = settled_rest;
          blank = settled_blank;
        }

      -- It was, and half of that list took it.
      module _ (lost : ℕ → Failures) (ns : List Seat) (left_last : AreLeft lost (TakesSlot last_mark (text_size (settled both.table))) some ns) (half_last : short_of Half ns (One list) ≡ None) (w : Tale)
          (over : WritingEnds some ns last_mark (settled both.table) v w) (at_over : WritingMoment some last_mark (settled both.table) v w) (at : List PlaceAt) (found : AreFoundAt g (dropped asked was) at) (m : Tale) (trying : AreTrying at w m) where
        abbrev new : Opened
        new = record { key = old.key; identity = old.identity; mark = last_mark; table = settled both.table; seats = ns }

        have_over : MayGo g old asked t → Everywhere (HaveAll g old.key old.identity was) w
        have_over go = have_passed g go.opened.sound old.key old.identity some last_mark (text_size (settled both.table)) over.body (settled both.table) v (last_recorded go).held
            (bodies g old.key old.identity first_mark (settled both.table) some (last_recording sizes g old asked may checked failed bs left half last) v (last_recorded go) over.body over.spelled) was w (replicas_of ns, [], over.slotting.passed) (have_listed go)

        taken_over : (all : List Database) → MayGo g old asked t → RestMay g all old asked t → (p : Place) (line : SliceLine) → Contains (dropped asked was) p → Contains (site_of g old.key).lines line → p.slice ≡ line.name
            → RestMayBeTaken (Spells g) g all old.identity line w
        taken_over all go rest p line gone looks same = taken_passed g go.opened.sound old.key old.identity some last_mark (text_size (settled both.table)) over.body (settled both.table) v (last_recorded go).held
            (bodies g old.key old.identity first_mark (settled both.table) some (last_recording sizes g old asked may checked failed bs left half last) v (last_recorded go) over.body over.spelled) all line w (replicas_of ns, [], over.slotting.passed)
            (taken_listed all go rest p line gone looks same)

        new_at : MayGo g old asked t → IsOpenedAt g new w
        new_at go = after_at sizes g old asked may checked failed bs left half last v (last_recorded go) lost ns left_last half_last w over

        -- the masters of the dropped places alone
        wiped_still : IsQuiet area t m
        wiped_still = quiet_more area t w m (settled_still w at_over) (quiet_wider (λ drive block. list_any (λ (b : PlaceAt). master_area b drive block) at) area w m
            (λ drive block out. subst (λ (l : List PlaceAt). list_any (λ (b : PlaceAt). master_area b drive block) l ≡ false) (dropped_at g old asked sound at found) (or_parts _ _ out).1) (wipes_quiet at w m trying))

        wiped_goes : (go : MayGo g old asked t) (change : Change) → IsChangeOf g old asked change → MoveGoes g old asked (asks_of (Some change)) (λ x. IsReadyWith (spots_of ns) x) (IsCommittedTo g new (Some change)) t m
        wiped_goes go change made =
            traces_then _ (Spells g) g (site_of g old.key) old.identity [] (asks_of (Some change)) (IsLogOf g old) (IsLogOf g old) (IsCommittedTo g new (Some change)) (λ x. IsReadyWith (spots_of old.seats) x) (λ x. IsReadyWith (spots_of old.seats) x) (λ x. IsReadyWith (spots_of ns) x)
            (AreFormed g old asked) (AreBoth g old asked) _ t u m (λ es fs first b. move_then g old asked es fs first b) (formed go).forming.goes
            (traces_then _ (Spells g) g (site_of g old.key) old.identity (asks_of (Some change)) [] (IsLogOf g old) (IsCommittedTo g then_open (Some change)) (IsCommittedTo g new (Some change)) (λ x. IsReadyWith (spots_of old.seats) x) (λ x. IsReadyWith (spots_of bs) x)
            (λ x. IsReadyWith (spots_of ns) x) (AreRecorded (site_of g old.key) both.table (spots_of both.seats)) (AreLast g old asked) (AreBoth g old asked) u v m (λ es fs run tail. both_then g old asked es fs run tail)
            (both_over sizes g old asked may checked failed bs left half last u v (recorded go) ends (formed go).have change made)
            (traces_then _ (Spells g) g (site_of g old.key) old.identity [] [] (IsCommittedTo g then_open (Some change)) (IsCommittedTo g new (Some change)) (IsCommittedTo g new (Some change)) (λ x. IsReadyWith (spots_of bs) x) (λ x. IsReadyWith (spots_of ns) x)
            (λ x. IsReadyWith (spots_of ns) x) (AreRecorded (site_of g old.key) (settled both.table) (spots_of both.seats)) AreWipes (AreLast g old asked) v w m (λ es fs run wipes. last_wiped g old asked es fs run wipes)
            (last_over sizes g old asked may checked failed bs left half last v (last_recorded go) lost ns left_last half_last w over change)
            (freed_traces g go.opened.sound new asked was w (have_over go) go.front at found m trying refl (new_at go) change)))

        pub wiped_moment : Moment m
        wiped_moment = record {
          quiet = wiped_still;
          only = inr (inr (inr (v, replicas_of some, were_listed, w, replicas_of ns, (over.body, over.spelled, over.slotting.passed), subst (λ (l : List PlaceAt). AreTrying l w m) (sym (dropped_at g old asked sound at found)) trying)));
          goes = λ change go made log covers known.
              goes_less (Spells g) g (site_of g old.key) old.identity _ (asks_of (Some change)) (asks_of (Some change)) (λ x. IsReadyWith (spots_of old.seats) x) (λ x. IsReadyWith (spots_of ns) x) AnyWorld _ _ (IsCommittedTo g new (Some change)) AnyLog t m log (part_itself (asks_of (Some change)))
              (λ es so. so) (λ x so. tt) (λ l so. tt) (wiped_goes go change made log covers known);
          rest = λ all go rest. freed_rest g go.opened.sound new asked was w (have_over go) go.front at found m trying all (settled_rest w at_over all go rest) (taken_over all go rest);
          blank = λ go. still_blank g old.identity t w m (settled_blank w at_over go) (freed_blank g go.opened.sound new asked was w (have_over go) go.front at found m trying);
        }

        pub moved_ends : (clean : Bool) → MayGo g old asked t → IsMoveEnd g old new asked (Ok clean) t m
        moved_ends clean go = (
          freed_opened g go.opened.sound new asked was w (have_over go) go.front at found m trying refl (new_at go) (ns_are sizes g old asked may checked failed bs left half last v (last_recorded go) lost ns left_last half_last w over),
          λ change made. wiped_goes go change made,
        )
