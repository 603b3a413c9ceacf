-- What a commit leads to.
use Rattle.std.proofs.Common.{◌≡◌, inl, inr, ◌<◌, ◌≤◌, ◌+◌, ◌*◌, ◌^◌, ℕ, true, false, List, [], ◌∷◌, ◌++◌, Option, Some, Contains, take, refl, sym, ◌∙◌, subst, append-nil, arith, None, ap}
use Rattle.std.specs.List.{concat}
use Rattle.mdv_quorum.specs.declared.event.Event.TheVariants.{Told}
use Rattle.mdv_encoding.specs.Room.{least_slot_bytes}
use Rattle.mdv_shelf.proofs.Everywhere.{last_image}
use Rattle.mdv_shelf.specs.Everywhere.{Everywhere}
use Rattle.mdv_shelf.proofs.Frame.{kept_outside_same}
use Rattle.mdv_shelf.proofs.Moments.{moments_none, moments_weaker}
use Rattle.mdv_shelf.specs.Moments.{Ends, Moments}
use Rattle.mdv_shown.proofs.Sites.{site_is}
use Rattle.mdv_standing.proofs.Stretches.{may_change, traced_answer, traced_change}
use Rattle.mdv_standing.proofs.Tracing.{may_answer, more, newest_begun, part_one, run_traced, run_within, trace_here, trace_weaker}
use Rattle.mdv_standing.specs.Tracing.{GoesTraced, IsCommitBegin, IsRun, taken_at}
use Rattle.mdv_standing.specs.Turning.{IsPlaceAt}
use Rattle.mdv_store_law.proofs.Issues.{any_asked}
use Rattle.mdv_store_law.proofs.Parts.{part_front, part_itself}
use Rattle.mdv_store_law.specs.Log.{Event as LogEvent, IsNewestTellable, MayHappen, Writing, Written, log_after}
use Rattle.mdv_store_law.specs.Part.{IsPart}
use Rattle.mdv_standing.specs.Committing.{MayChangeLists, MayFollow, MayListNext}
use Rattle.mdv_plan.specs.declared.lists.Lists.{Lists}
use Rattle.mdv_store.specs.Blank.{StayBlank}
use Rattle.mdv_store.specs.Below.{Change, Core, CoversWith, Database, Event, Failures, Geometry, HasNoneAbove, IsCommitRun, IsMade, IsNewest, IsOfGeometry, IsReadyWith, IsSound, IsTaking, Log, Mark, Replica, RestStands, Site, Spot, Table, Tale, Traces, asks_of, fills_at, is_named, last, last_of, lists_of_spots, places_of, record_bytes, site_of}
use Rattle.mdv_store.specs.Commit.{AnyLog, AnyWorld, AreOfCommit, CommitDone, CommitGoes, CommitMoment, IsCommitted, IsCommittedTo, IsLogOf, IsLostNow, IsNewestWritten, MayCommit, next_mark, room_in}
use Rattle.mdv_store.specs.Opened.{AreSeatsOf, IsOpen, IsOpenedAt, Opened, least_room, shortage}
use Rattle.mdv_store.specs.Settled.{first_room}
use Rattle.mdv_store.specs.Records.{Spells}
use Rattle.mdv_store.specs.Seats.{AreLeft, AreNamed, HaveRoom, TakesSlot, replicas_of, spot_of, spots_of}
use Rattle.mdv_store.specs.Slots.{AreAbove, AreBodies, AreFills, FillsTrace, IsWritten}
use Rattle.mdv_store.specs.Text.{IsSpelled, blocks_for}
use Rattle.mdv_store.specs.Writing.{WritingEnds, WritingMoment, text_size}
use Rattle.mdv_store.specs.declared.seats.Seat.{Seat}
use Rattle.mdv_store.proofs.Halves.{half_written, spot_in_spots}
use Rattle.mdv_store.proofs.Marks.{are_above, left_none_above, next_is_mark, slot_stays}
use Rattle.mdv_store.proofs.Passing.{has_mapped}
use Rattle.mdv_store.proofs.Records.{record_spelled}
use Rattle.mdv_store.proofs.Rooms.{have_room}
use Rattle.mdv_store.proofs.Sitting.{left_replica, left_seats, some_active}
use Rattle.mdv_store.proofs.Telling.{newest_tellable, newest_written}
use Rattle.mdv_store.proofs.Texts.{text_some}
use Rattle.mdv_store.specs.Shares.{short_of}
use Rattle.mdv_store.specs.declared.seats.Need.TheVariants.{Half}
use Rattle.mdv_store.specs.declared.seats.Share.{Share}
use Rattle.mdv_store.proofs.Shares.{some_enough}

-- Nothing was done.
nothing_goes : (g : Geometry) (old : Opened) (next : Table) (asked : Option Change) (t : Tale) → CommitGoes g old asked AnyWorld AnyLog t t
nothing_goes g old next asked t log covers known = record {
  es = [];
  course = tt;
  come = record { tells = refl; issues = tt; begins = tt };
  traces = trace_here (Spells g) (site_of g old.key) old.identity log log (IsReadyWith (spots_of old.seats)) (AreOfCommit g old) AnyWorld t (λ w image is world known. record { events = []; are = inl refl; may = tt; world = world; known = tt });
  after = tt;
}

nothing_done : (old : Opened) (next : Table) (t : Tale) → CommitMoment old next t t
nothing_done old next t = record {
  quiet = record { outside = kept_outside_same _ t; quiet = refl };
  only = inl refl;
  goes = λ g asked may. nothing_goes g old next asked t;
  rest = λ g all of_geometry opened rest. rest;
  blank = λ g of_geometry opened key other another blank. blank;
}

pub none_moments : (old : Opened) (next : Table) (a : Option Tale) → Moments (CommitMoment old next) a a
none_moments old next a = moments_none (CommitMoment old next) a a refl (nothing_done old next)

-- A table is written to the active places of an open database, whose lists may follow those of its table: these are the places that the next one lists.
pub record IsCommitting (old : Opened) (next : Table) : Type 0 where
  pub seats : AreSeatsOf next old.seats
  pub boot : old.mark.boot < 2 ^ 63
  pub small : old.mark.count + 1 < 2 ^ 63
  pub half : short_of Half old.seats next.plan.lists ≡ None
  pub none_above : (r : Replica) → Contains (replicas_of old.seats) r → HasNoneAbove old.mark r.head
  pub follows : MayFollow old.table.plan.lists next.plan.lists
  pub room : HaveRoom (blocks_for (text_size next)) old.seats
  pub named : (g : Geometry) (t : Tale) → IsOpenedAt g old t → AreNamed (site_of g old.key) next old.seats

-- the events of such a write: its lists, and the table at some of the active places, one of them first
abbrev pub AreWritten : Geometry → Opened → Table → List Event → Type 0
AreWritten g old next es = (p : Spot) × Contains (spots_of old.seats) p × IsCommitRun (lists_of_spots (site_of g old.key) next.plan.lists) p (spots_of old.seats) es

module _ (old : Opened) (next : Table) (c : IsCommitting old next) where
  abbrev mark : Mark
  mark = next_mark old.mark

  abbrev bytes : ℕ
  bytes = text_size next

  pub bodies : (body : List (List ℕ)) → IsSpelled next bytes body → (g : Geometry) → IsSound g → IsOfGeometry g next → record_bytes next ≤ room_in next → AreBodies g old.seats mark bytes body next
  bodies body spelled g sound of_geometry fits r has =
      let text = record_spelled g (take bytes (concat body)) next sound of_geometry fits spelled.text in
      let in_slot = c.room r has in
      record {
        is = record { of_mark = next_is_mark old.mark c.boot c.small; in_slot = omega (arith, spelled.blocks, in_slot); in_room = omega (arith, spelled.blocks); in_body = spelled.in_body; as_record = (next, text) };
        spelled = text;
      }

  above : AreAbove mark old.seats
  above = are_above old.mark old.seats c.none_above

  abbrev writes : Option Change → (log : Log) → IsNewest log old.mark old.table → LogEvent
  writes asked log n = Writing mark asked n.version.changes next

  -- the log goes on by the write
  module _ (g : Geometry) (asked : Option Change) (t : Tale) (opened : IsOpenedAt g old t) (of_geometry : IsOfGeometry g next) (fits : record_bytes next ≤ room_in next) (log : Log)
      (covers : CoversWith (Spells g) (site_of g old.key) old.identity (λ image w. IsReadyWith (spots_of old.seats) w) log t) (known : IsNewest log old.mark old.table)
      (made : IsMade g asked old.table next) (change : MayChangeLists known.version next) where
    abbrev site : Site
    site = site_of g old.key

    abbrev begun : Log
    begun = log_after log (writes asked log known)

    abbrev places : List Spot
    places = spots_of old.seats

    first : (r : Replica) × Contains (replicas_of old.seats) r
    first = some_active old.seats (some_enough Half old.seats next c.seats c.half)

    abbrev p : Spot
    p = spot_of first.0

    active : Contains places p
    active = has_mapped spot_of (replicas_of old.seats) first.0 first.1

    abbrev Begins : List Event → Type 0
    Begins = IsCommitBegin (lists_of_spots site next.plan.lists) p

    at : IsPlaceAt (Spells g) site old.identity t next first.0.line first.0.number first.0.first first.0.head
    at = record { site_is = site_is g old.key opened.sound; each = opened.held.each first.0 first.1; named = c.named g t opened first.0 first.1 }

    lists : Everywhere (MayListNext (Spells g) site old.identity known.version next) t
    lists image is = inl (subst (λ (u : Table). MayFollow u.plan.lists next.plan.lists) (sym known.same) c.follows)

    may_write : MayHappen g log (writes asked log known)
    may_write = may_change (Spells g) site old.identity log t first.0.line first.0.number first.0.first first.0.head old.mark old.table next asked places at known lists c.small g made change covers

    begin : Traces (Spells g) site old.identity log begun (IsReadyWith places) (IsRun Begins []) (IsTaking false mark []) t t
    begin =
        run_traced (Spells g) site old.identity log begun (IsReadyWith places) (IsTaking false mark []) Begins t t
        (traced_change (Spells g) site old.identity log t first.0.line first.0.number first.0.first first.0.head old.mark old.table next asked places at known lists c.small)

    newest : IsNewest begun mark next
    newest = newest_begun log mark asked known.version.changes next

    written : (body : List (List ℕ)) → IsSpelled next bytes body → IsWritten g old.key old.identity old.seats mark bytes body begun next t
    written body spelled = record {
      sound = opened.sound;
      held = opened.held;
      named = c.named g t opened;
      bodies = bodies body spelled g opened.sound of_geometry fits;
      above = above;
      newest = newest;
    }

    only_asked : IsPart (asks_of asked ++ []) (asks_of asked)
    only_asked = subst (λ (l : List (Option Change)). IsPart l (asks_of asked)) (sym (append-nil (asks_of asked))) (part_itself (asks_of asked))

    -- some places take it
    taking : (now : List Spot) (m : Tale) → FillsTrace g old.key old.identity old.seats mark begun false [] now t m → Traces (Spells g) site old.identity log begun (IsReadyWith places) (IsRun Begins (fills_at places)) (IsTaking false mark now) t m
    taking now m fills =
        more (Spells g) site old.identity log begun (IsReadyWith places) (IsTaking false mark []) Begins [] t t begin begun (IsTaking false mark now) (AreFills places) (fills_at places) m (λ fs are. are) fills

    pub goes_on : (m : Tale) → WritingMoment old.seats mark next t m → GoesTraced (Spells g) g site old.identity (asks_of asked) (IsReadyWith places) (AreWritten g old next) AnyWorld AnyLog t m log
    goes_on m writing = record {
      es = writes asked log known ∷ [];
      course = (may_write, tt);
      come = record { tells = refl; issues = (any_asked asked, tt); begins = only_asked };
      traces =
          trace_weaker (Spells g) site old.identity log begun (IsReadyWith places) (IsReadyWith places) (IsTaking false mark []) AnyWorld (IsRun Begins (fills_at places)) (AreWritten g old next) t m (λ w ready. ready)
          (λ es run. (p, active, run_within Begins (fills_at places) (taken_at places) es (part_front (fills_at places) (Told ∷ [])) run)) (λ w taking. tt)
          (taking [] m (writing.slotting.traces g old.key old.identity begun next false [] (written writing.body writing.spelled)));
      after = tt;
    }

    abbrev pub over : Log
    over = log_after begun Written

    -- half of each list took it in the end
    module _ (new : List Seat) (u : Tale) (ends : WritingEnds old.seats new mark next t u) (are : AreSeatsOf next new) (half : short_of Half new next.plan.lists ≡ None) where
      abbrev took : List Spot
      took = spots_of new ++ []

      lie : (r : Replica) → Contains (replicas_of new) r → Contains site.lines r.line
      lie r has = ((ends.slotting.held g old.key old.identity next opened.sound opened.held (bodies ends.body ends.spelled g opened.sound of_geometry fits)).each r has (last u) (last_image u)).found.one_of

      answered : Traces (Spells g) site old.identity begun over (IsTaking false mark took) (λ es. es ≡ Told ∷ []) (IsReadyWith took) u u
      answered =
          traced_answer (Spells g) site old.identity begun u mark next false took
          (half_written g old.key opened.sound next new took are half lie (spot_in_spots new [])) newest

      run : Traces (Spells g) site old.identity log over (IsReadyWith places) (IsRun Begins (taken_at places)) (IsReadyWith took) t u
      run =
          more (Spells g) site old.identity log begun (IsReadyWith places) (IsTaking false mark took) Begins (fills_at places) t u (taking took u (ends.slotting.traces g old.key old.identity begun next false [] (written ends.body ends.spelled))) over (IsReadyWith took)
          (λ es. es ≡ Told ∷ []) (Told ∷ []) u (λ fs is. part_one Told fs is) answered

      pub over_newest : IsNewestWritten over mark next
      over_newest = newest_written begun mark next newest

      pub ends_so : GoesTraced (Spells g) g site old.identity (asks_of asked) (IsReadyWith places) (AreWritten g old next) (IsReadyWith (spots_of new)) (λ l. l ≡ over) t u log
      ends_so = record {
        es = writes asked log known ∷ (Written ∷ []);
        course = (may_write, (may_answer g begun mark next newest, tt));
        come = record { tells = refl; issues = (any_asked asked, (tt, tt)); begins = only_asked };
        traces =
            trace_weaker (Spells g) site old.identity log over (IsReadyWith places) (IsReadyWith places) (IsReadyWith took) (IsReadyWith (spots_of new)) (IsRun Begins (taken_at places)) (AreWritten g old next) t u (λ w ready. ready)
            (λ es is. (p, active, is)) (λ w ready. subst (λ (l : List Spot). IsReadyWith l w) (append-nil (spots_of new)) ready) run;
        after = refl;
      }

  -- what the pass left
  module _ (failed : ℕ → Failures) (new : List Seat) (left : AreLeft failed (TakesSlot mark bytes) old.seats new) where
    pub new_seats : (table : Table) → table.plan.lists ≡ next.plan.lists → AreSeatsOf table new
    new_seats table lists = left_seats failed (TakesSlot mark bytes) next table old.seats new (slot_stays mark bytes) lists left c.seats

    pub new_named : (g : Geometry) (t : Tale) → IsOpenedAt g old t → AreNamed (site_of g old.key) next new
    new_named g t opened n has =
        let one = left_replica failed (TakesSlot mark bytes) old.seats new n left has in
        subst (λ (r : Replica). is_named (lists_of_spots (site_of g old.key) next.plan.lists) (spot_of r) ≡ true) (sym one.2.2) (c.named g t opened one.0 one.1)

    -- those that are left show the table
    pub left_show : (t u : Tale) → WritingEnds old.seats new mark next t u → (g : Geometry) → IsOfGeometry g next → record_bytes next ≤ room_in next → IsOpenedAt g old t → IsOpenedAt g (record old { mark = mark; table = next; seats = new }) u
    left_show t u ends g of_geometry fits opened = record {
      sound = opened.sound;
      of_geometry = of_geometry;
      held = ends.slotting.held g old.key old.identity next opened.sound opened.held (bodies ends.body ends.spelled g opened.sound of_geometry fits);
      named = new_named g t opened;
      shown = ends.slotting.shown g old.key old.identity next opened.sound opened.held (bodies ends.body ends.spelled g opened.sound of_geometry fits) above;
    }

  -- the other databases, while it is written
  module _ (t m : Tale) (writing : WritingMoment old.seats mark next t m) (g : Geometry) (of_geometry : IsOfGeometry g next) (fits : record_bytes next ≤ room_in next) (opened : IsOpenedAt g old t) where
    pub others_stand : (all : List Database) → RestStands (Spells g) g all old.identity t → RestStands (Spells g) g all old.identity m
    others_stand all = writing.slotting.rest g old.key old.identity all next opened.sound opened.held (bodies writing.body writing.spelled g opened.sound of_geometry fits)

    pub others_blank : StayBlank g old.identity t m
    others_blank = writing.slotting.blank g old.key old.identity next opened.sound opened.held (bodies writing.body writing.spelled g opened.sound of_geometry fits)

-- A commit: the lists stay.
module _ (old : Opened) (next : Table) (seats : AreSeatsOf old.table old.seats) (boot : old.mark.boot < 2 ^ 63) (small : old.mark.count + 1 < 2 ^ 63) (half : shortage old ≡ None)
    (none_above : (r : Replica) → Contains (replicas_of old.seats) r → HasNoneAbove old.mark r.head) (lists : next.plan.lists ≡ old.table.plan.lists) (in_room : record_bytes next ≤ room_in old.table) where
  pub committing : IsCommitting old next
  committing = record {
    seats = record { places = seats.places ∙ ap places_of (sym lists); some = seats.some; few = seats.few; at = seats.at };
    boot = boot;
    small = small;
    half = ap (short_of Half old.seats) lists ∙ half;
    none_above = none_above;
    follows = inl lists;
    room = have_room old.table old.seats (text_size next) seats (text_some next) in_room;
    named = λ g t opened r has. subst (λ (l : Lists). is_named (lists_of_spots (site_of g old.key) l) (spot_of r) ≡ true) (sym lists) (opened.named r has);
  }

  abbrev next_to : Mark
  next_to = next_mark old.mark

  fits : record_bytes next ≤ room_in next
  fits = subst (λ (l : Lists). record_bytes next ≤ least_slot_bytes (places_of l)) (sym lists) in_room

  as_commit : (g : Geometry) (es : List Event) → AreWritten g old next es → AreOfCommit g old es
  as_commit g es (p, active, run) = inr (p, active, subst (λ (l : Lists). IsCommitRun (lists_of_spots (site_of g old.key) l) p (spots_of old.seats) es) lists run)

  module _ (g : Geometry) (asked : Option Change) (t : Tale) (may : MayCommit g old asked next t) (log : Log)
      (covers : CoversWith (Spells g) (site_of g old.key) old.identity (λ image w. IsReadyWith (spots_of old.seats) w) log t) (known : IsLogOf g old log) where
    kept_lists : MayChangeLists known.newest.version next
    kept_lists = inl (lists ∙ sym (ap (λ (u : Table). u.plan.lists) known.newest.same))

    as_commits : (Then : Core → Type 0) (After Later : Log → Type 0) (m : Tale) → ((l : Log) → After l → Later l)
        → GoesTraced (Spells g) g (site_of g old.key) old.identity (asks_of asked) (IsReadyWith (spots_of old.seats)) (AreWritten g old next) Then After t m log
        → GoesTraced (Spells g) g (site_of g old.key) old.identity (asks_of asked) (IsReadyWith (spots_of old.seats)) (AreOfCommit g old) Then Later t m log
    as_commits Then After Later m after goes = record {
      es = goes.es;
      course = goes.course;
      come = goes.come;
      traces = trace_weaker (Spells g) (site_of g old.key) old.identity log _ (IsReadyWith (spots_of old.seats)) (IsReadyWith (spots_of old.seats)) Then Then (AreWritten g old next) (AreOfCommit g old) t m (λ w ready. ready) (as_commit g) (λ w then_so. then_so) goes.traces;
      after = after _ goes.after;
    }

    commit_goes : (m : Tale) → WritingMoment old.seats next_to next t m → GoesTraced (Spells g) g (site_of g old.key) old.identity (asks_of asked) (IsReadyWith (spots_of old.seats)) (AreOfCommit g old) AnyWorld AnyLog t m log
    commit_goes m writing = as_commits AnyWorld AnyLog AnyLog m (λ l any. tt) (goes_on old next committing g asked t may.opened may.of_geometry fits log covers known.newest may.made kept_lists m writing)

    commit_over : (new : List Seat) (u : Tale) → WritingEnds old.seats new next_to next t u → AreSeatsOf next new → short_of Half new next.plan.lists ≡ None
        → GoesTraced (Spells g) g (site_of g old.key) old.identity (asks_of asked) (IsReadyWith (spots_of old.seats)) (AreOfCommit g old) (IsReadyWith (spots_of new)) (IsCommittedTo g (record old { mark = next_to; table = next; seats = new }) asked) t u log
    commit_over new u ends are enough =
        let last : Log = over old next committing g asked t may.opened may.of_geometry fits log covers known.newest may.made kept_lists in
        as_commits (IsReadyWith (spots_of new)) (λ l. l ≡ last) (IsCommittedTo g (record old { mark = next_to; table = next; seats = new }) asked) u
        (λ l is. subst (IsCommittedTo g (record old { mark = next_to; table = next; seats = new }) asked) (sym is) (record { newest = over_newest old next committing g asked t may.opened may.of_geometry fits log covers known.newest may.made kept_lists new u ends are enough; tellable = tellable }))
        (ends_so old next committing g asked t may.opened may.of_geometry fits log covers known.newest may.made kept_lists new u ends are enough)
      where
        tellable : (change : Change) → asked ≡ Some change → IsNewestTellable (log_after (log_after log (Writing next_to asked known.newest.version.changes next)) Written) asked
        tellable change is =
            subst (λ (a : Option Change). IsNewestTellable (log_after (log_after log (Writing next_to a known.newest.version.changes next)) Written) a) (sym is) (newest_tellable g log old.mark old.table known.newest next_to change next known.is_log)

  commit_moment : (t m : Tale) → WritingMoment old.seats next_to next t m → CommitMoment old next t m
  commit_moment t m writing = record {
    quiet = writing.slotting.quiet;
    only = inr (writing.body, writing.spelled, writing.slotting.passing);
    goes = λ g asked may log covers known. commit_goes g asked t may log covers known m writing;
    rest = λ g all of_geometry opened. others_stand old next committing t m writing g of_geometry fits opened all;
    blank = λ g of_geometry opened. others_blank old next committing t m writing g of_geometry fits opened;
  }

  pub commit_moments : (a b : Option Tale) → Moments (WritingMoment old.seats next_to next) a b → Moments (CommitMoment old next) a b
  commit_moments a b = moments_weaker (WritingMoment old.seats next_to next) (CommitMoment old next) a b commit_moment

  module _ (failed : ℕ → Failures) (new : List Seat) (left : AreLeft failed (TakesSlot next_to (text_size next)) old.seats new) where
    pub new_open : (rooms : ℕ) → least_room (places_of old.table.plan.lists) ≤ rooms → first_room (last_of old.table.plan.lists) ≤ rooms → 512 * rooms < 2 ^ 32 → IsOpen (record old { mark = next_to; table = next; seats = new }) rooms
    new_open rooms whole first short = record {
      boot = boot;
      count = small;
      seats = new_seats old next committing failed new left next refl;
      whole = subst (λ (l : Lists). least_room (places_of l) ≤ rooms) (sym lists) whole;
      first = subst (λ (l : Lists). first_room (last_of l) ≤ rooms) (sym lists) first;
      short = short;
      marks = λ half. left_none_above failed old.mark (text_size next) old.seats new left none_above;
    }

    -- of a list fewer than half took it
    pub lost_open : (rooms : ℕ) → least_room (places_of old.table.plan.lists) ≤ rooms → first_room (last_of old.table.plan.lists) ≤ rooms → 512 * rooms < 2 ^ 32 → (share : Share) → short_of Half new old.table.plan.lists ≡ Some share → IsOpen (record old { seats = new }) rooms
    lost_open rooms whole first short share few = record {
      boot = boot;
      count = omega (arith, small);
      seats = new_seats old next committing failed new left old.table (sym lists);
      whole = whole;
      first = first;
      short = short;
      marks = λ half. absurd (cc (few, half));
    }

    -- what came of it
    pub lost_now : IsLostNow failed old (record old { seats = new }) next
    lost_now = record { tried = record { half = half; fits = in_room; small = small; left = left }; is = refl }

    -- by the lists of the table that was, which are those of the next one
    half_next : short_of Half new old.table.plan.lists ≡ None → short_of Half new next.plan.lists ≡ None
    half_next half = ap (short_of Half new) lists ∙ half

    pub committed : short_of Half new old.table.plan.lists ≡ None → IsCommitted failed old (record old { mark = next_to; table = next; seats = new }) next
    committed enough = record { tried = record { half = half; fits = in_room; small = small; left = left }; enough = half_next enough; is = refl }

    show_all : (t u : Tale) → WritingEnds old.seats new next_to next t u → (g : Geometry) → IsOfGeometry g next → IsOpenedAt g old t → IsOpenedAt g (record old { mark = next_to; table = next; seats = new }) u
    show_all t u ends g of_geometry opened = left_show old next committing failed new left t u ends g of_geometry fits opened

    pub left_ends : (a b : Option Tale) → Ends (WritingEnds old.seats new next_to next) a b → Ends (λ t u. (g : Geometry) → IsOfGeometry g next → IsOpenedAt g old t → IsOpenedAt g (record old { mark = next_to; table = next; seats = new }) u) a b
    left_ends a b ends t is = (let end = ends t is in (end.0, end.1, show_all t end.0 end.2))

    commit_done : (t u : Tale) → WritingEnds old.seats new next_to next t u → short_of Half new old.table.plan.lists ≡ None → CommitDone old (record old { mark = next_to; table = next; seats = new }) next t u
    commit_done t u ends enough = record {
      opened = show_all t u ends;
      goes = λ g asked may log covers known. commit_over g asked t may log covers known new u ends (new_seats old next committing failed new left next refl) (half_next enough);
    }

    pub commit_ends : (a b : Option Tale) → short_of Half new old.table.plan.lists ≡ None → Ends (WritingEnds old.seats new next_to next) a b → Ends (CommitDone old (record old { mark = next_to; table = next; seats = new }) next) a b
    commit_ends a b enough ends t is = (let end = ends t is in (end.0, end.1, commit_done t end.0 end.2 enough))
