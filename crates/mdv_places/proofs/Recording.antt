-- A table is written to the places that its lists name, from worlds in which nothing is in work.
use Rattle.std.proofs.Common.{◌≡◌, ◌<◌, ◌≤◌, ◌+◌, ◌^◌, ℕ, true, false, List, [], ◌∷◌, ◌++◌, Option, None, Contains, take, refl, sym, subst, append-nil, arith}
use Rattle.std.specs.List.{concat}
use Rattle.mdv_name.specs.Sound.{IsSound}
use Rattle.mdv_quorum.specs.declared.event.Event.TheVariants.{Told}
use Rattle.mdv_shelf.proofs.Everywhere.{last_image}
use Rattle.mdv_shown.proofs.Sites.{site_is}
use Rattle.mdv_standing.specs.Committing.{MayChangeLists, MayListNext}
use Rattle.mdv_standing.specs.Tracing.{GoesTraced, IsCommitBegin, IsRun, taken_at}
use Rattle.mdv_standing.specs.Turning.{IsPlaceAt}
use Rattle.mdv_standing.proofs.Stretches.{may_change, traced_answer, traced_change}
use Rattle.mdv_standing.proofs.Tracing.{may_answer, more, newest_begun, part_one, run_traced, run_within, trace_weaker}
use Rattle.mdv_store_law.proofs.Parts.{part_front, part_itself}
use Rattle.mdv_store_law.proofs.Issues.{any_asked}
use Rattle.mdv_store_law.specs.Log.{Event as LogEvent, MayHappen, Writing, Written, log_after}
use Rattle.mdv_store_law.specs.Part.{IsPart}
use Rattle.mdv_store.specs.Below.{Change, CoversWith, Database, Event, Everywhere, Failures, Geometry, HasNoneAbove, Identity, IsCommitRun, IsMade, IsNewest, IsOfGeometry, IsReadyWith, IsTaking, Key, Log, Mark, Replica, RestStands, Site, Spot, Table, Tale, Traces, asks_of, fills_at, is_named, last, lists_of_spots, site_of}
use Rattle.mdv_store.specs.Blank.{StayBlank}
use Rattle.mdv_store.specs.Commit.{AnyLog, AnyWorld, IsNewestWritten, next_mark, room_in}
use Rattle.mdv_store.specs.Opened.{AreSeatsOf, IsOpenedAt}
use Rattle.mdv_store.specs.Records.{Spells}
use Rattle.mdv_store.specs.Seats.{AreHeld, AreLeft, AreNamed, TakesSlot, replicas_of, spot_of, spots_of}
use Rattle.mdv_store.specs.Shares.{short_of}
use Rattle.mdv_store.specs.Slots.{AreAbove, AreBodies, FillsTrace, IsWritten}
use Rattle.mdv_store.specs.Text.{IsSpelled}
use Rattle.mdv_store.specs.Writing.{WritingEnds, WritingMoment, text_size}
use Rattle.mdv_store.specs.declared.seats.Need.TheVariants.{Half}
use Rattle.mdv_store.specs.declared.seats.Seat.{Seat}
use Rattle.mdv_store.proofs.Halves.{half_written, spot_in_spots}
use Rattle.mdv_store.proofs.Marks.{are_above, next_is_mark}
use Rattle.mdv_store.proofs.Passing.{has_mapped}
use Rattle.mdv_store.proofs.Records.{record_spelled}
use Rattle.mdv_store.proofs.Rooms.{have_room}
use Rattle.mdv_store.proofs.Sitting.{left_replica}
use Rattle.mdv_store.proofs.Telling.{newest_written}
use Rattle.mdv_store.proofs.Texts.{text_some}

-- The seats are those of the table's lists, one of them is active, no active place has a greater mark than the one before, and the text fits each slot.
pub record IsRecording (was : Mark) (next : Table) (seats : List Seat) : Type 0 where
  pub of : AreSeatsOf next seats
  pub boot : was.boot < 2 ^ 63
  pub small : was.count + 1 < 2 ^ 63
  pub some : (r : Replica) × Contains (replicas_of seats) r
  pub none_above : (r : Replica) → Contains (replicas_of seats) r → HasNoneAbove was r.head
  pub fits : text_size next ≤ room_in next

-- The replicas at the active places are found, whatever a crash leaves, and the table's lists name them.
pub record IsRecordAt (g : Geometry) (key : Key) (identity : Identity) (next : Table) (seats : List Seat) (t : Tale) : Type 0 where
  pub sound : IsSound g
  pub of_geometry : IsOfGeometry g next
  pub held : AreHeld g key identity seats t
  pub named : AreNamed (site_of g key) next seats

-- the events of such a write: its lists, and the table at some of the active places, one of them first
abbrev pub AreRecorded : Site → Table → List Spot → List Event → Type 0
AreRecorded site next places es = (p : Spot) × Contains places p × IsCommitRun (lists_of_spots site next.plan.lists) p places es

module _ (g : Geometry) (key : Key) (identity : Identity) (was : Mark) (next : Table) (seats : List Seat) (c : IsRecording was next seats) (t : Tale) (at_start : IsRecordAt g key identity next seats t) where
  abbrev mark : Mark
  mark = next_mark was

  abbrev bytes : ℕ
  bytes = text_size next

  abbrev site : Site
  site = site_of g key

  pub bodies : (body : List (List ℕ)) → IsSpelled next bytes body → AreBodies g seats mark bytes body next
  bodies body spelled r has =
      let text = record_spelled g (take bytes (concat body)) next at_start.sound at_start.of_geometry c.fits spelled.text in
      let in_slot = have_room next seats bytes c.of (text_some next) c.fits r has in
      record {
        is = record { of_mark = next_is_mark was c.boot c.small; in_slot = omega (arith, spelled.blocks, in_slot); in_room = omega (arith, spelled.blocks); in_body = spelled.in_body; as_record = (next, text) };
        spelled = text;
      }

  above : AreAbove mark seats
  above = are_above was seats c.none_above

  -- the other databases, while it is written
  module _ (m : Tale) (writing : WritingMoment seats mark next t m) where
    pub record_rest : (all : List Database) → RestStands (Spells g) g all identity t → RestStands (Spells g) g all identity m
    record_rest all = writing.slotting.rest g key identity all next at_start.sound at_start.held (bodies writing.body writing.spelled)

    pub record_blank : StayBlank g identity t m
    record_blank = writing.slotting.blank g key identity next at_start.sound at_start.held (bodies writing.body writing.spelled)

  -- those that are left hold it
  module _ (failed : ℕ → Failures) (new : List Seat) (left : AreLeft failed (TakesSlot mark bytes) seats new) (u : Tale) (ends : WritingEnds seats new mark next t u) where
    pub record_named : AreNamed site next new
    record_named n has =
        let one = left_replica failed (TakesSlot mark bytes) seats new n left has in
        subst (λ (r : Replica). is_named (lists_of_spots site next.plan.lists) (spot_of r) ≡ true) (sym one.2.2) (at_start.named one.0 one.1)

    pub record_shown : IsOpenedAt g (record { key = key; identity = identity; mark = mark; table = next; seats = new }) u
    record_shown = record {
      sound = at_start.sound;
      of_geometry = at_start.of_geometry;
      held = ends.slotting.held g key identity next at_start.sound at_start.held (bodies ends.body ends.spelled);
      named = record_named;
      shown = ends.slotting.shown g key identity next at_start.sound at_start.held (bodies ends.body ends.spelled) above;
    }

  -- the log goes on by the write
  module _ (table : Table) (ready : List Spot) (asked : Option Change) (log : Log) (covers : CoversWith (Spells g) site identity (λ image w. IsReadyWith ready w) log t) (known : IsNewest log was table)
      (made : IsMade g asked table next) (change : MayChangeLists known.version next) (lists : Everywhere (MayListNext (Spells g) site identity known.version next) t) where
    abbrev places : List Spot
    places = spots_of seats

    abbrev writes : LogEvent
    writes = Writing mark asked known.version.changes next

    abbrev begun : Log
    begun = log_after log writes

    abbrev first : (r : Replica) × Contains (replicas_of seats) r
    first = c.some

    abbrev p : Spot
    p = spot_of first.0

    active : Contains places p
    active = has_mapped spot_of (replicas_of seats) first.0 first.1

    abbrev Begins : List Event → Type 0
    Begins = IsCommitBegin (lists_of_spots site next.plan.lists) p

    at : IsPlaceAt (Spells g) site identity t next first.0.line first.0.number first.0.first first.0.head
    at = record { site_is = site_is g key at_start.sound; each = at_start.held.each first.0 first.1; named = at_start.named first.0 first.1 }

    may_write : MayHappen g log writes
    may_write = may_change (Spells g) site identity log t first.0.line first.0.number first.0.first first.0.head was table next asked ready at known lists c.small g made change covers

    begin : Traces (Spells g) site identity log begun (IsReadyWith ready) (IsRun Begins []) (IsTaking false mark []) t t
    begin =
        run_traced (Spells g) site identity log begun (IsReadyWith ready) (IsTaking false mark []) Begins t t
        (traced_change (Spells g) site identity log t first.0.line first.0.number first.0.first first.0.head was table next asked ready at known lists c.small)

    newest : IsNewest begun mark next
    newest = newest_begun log mark asked known.version.changes next

    written : (body : List (List ℕ)) → IsSpelled next bytes body → IsWritten g key identity seats mark bytes body begun next t
    written body spelled = record { sound = at_start.sound; held = at_start.held; named = at_start.named; bodies = bodies body spelled; above = above; newest = newest }

    only_asked : IsPart (asks_of asked ++ []) (asks_of asked)
    only_asked = subst (λ (l : List (Option Change)). IsPart l (asks_of asked)) (sym (append-nil (asks_of asked))) (part_itself (asks_of asked))

    -- some places take it
    taking : (now : List Spot) (m : Tale) → FillsTrace g key identity seats mark begun false [] now t m → Traces (Spells g) site identity log begun (IsReadyWith ready) (IsRun Begins (fills_at places)) (IsTaking false mark now) t m
    taking now m fills =
        more (Spells g) site identity log begun (IsReadyWith ready) (IsTaking false mark []) Begins [] t t begin begun (IsTaking false mark now) (λ fs. IsPart fs (fills_at places)) (fills_at places) m (λ fs are. are) fills

    pub record_goes : (m : Tale) → WritingMoment seats mark next t m → GoesTraced (Spells g) g site identity (asks_of asked) (IsReadyWith ready) (AreRecorded site next places) AnyWorld AnyLog t m log
    record_goes m writing = record {
      es = writes ∷ [];
      course = (may_write, tt);
      come = record { tells = refl; issues = (any_asked asked, tt); begins = only_asked };
      traces =
          trace_weaker (Spells g) site identity log begun (IsReadyWith ready) (IsReadyWith ready) (IsTaking false mark []) AnyWorld (IsRun Begins (fills_at places)) (AreRecorded site next places) t m (λ w ready_so. ready_so)
          (λ es run. (p, active, run_within Begins (fills_at places) (taken_at places) es (part_front (fills_at places) (Told ∷ [])) run)) (λ w taking_so. tt)
          (taking [] m (writing.slotting.traces g key identity begun next false [] (written writing.body writing.spelled)));
      after = tt;
    }

    abbrev pub over : Log
    over = log_after begun Written

    -- half of each list took it in the end
    module _ (new : List Seat) (u : Tale) (ends : WritingEnds seats new mark next t u) (are : AreSeatsOf next new) (half : short_of Half new next.plan.lists ≡ None) where
      abbrev took : List Spot
      took = spots_of new ++ []

      lie : (r : Replica) → Contains (replicas_of new) r → Contains site.lines r.line
      lie r has = ((ends.slotting.held g key identity next at_start.sound at_start.held (bodies ends.body ends.spelled)).each r has (last u) (last_image u)).found.one_of

      answered : Traces (Spells g) site identity begun over (IsTaking false mark took) (λ es. es ≡ Told ∷ []) (IsReadyWith took) u u
      answered =
          traced_answer (Spells g) site identity begun u mark next false took
          (half_written g key at_start.sound next new took are half lie (spot_in_spots new [])) newest

      run : Traces (Spells g) site identity log over (IsReadyWith ready) (IsRun Begins (taken_at places)) (IsReadyWith took) t u
      run =
          more (Spells g) site identity log begun (IsReadyWith ready) (IsTaking false mark took) Begins (fills_at places) t u (taking took u (ends.slotting.traces g key identity begun next false [] (written ends.body ends.spelled))) over (IsReadyWith took)
          (λ es. es ≡ Told ∷ []) (Told ∷ []) u (λ fs is. part_one Told fs is) answered

      pub over_newest : IsNewestWritten over mark next
      over_newest = newest_written begun mark next newest

      pub record_over : GoesTraced (Spells g) g site identity (asks_of asked) (IsReadyWith ready) (AreRecorded site next places) (IsReadyWith (spots_of new)) (λ l. l ≡ over) t u log
      record_over = record {
        es = writes ∷ (Written ∷ []);
        course = (may_write, (may_answer g begun mark next newest, tt));
        come = record { tells = refl; issues = (any_asked asked, (tt, tt)); begins = only_asked };
        traces =
            trace_weaker (Spells g) site identity log over (IsReadyWith ready) (IsReadyWith ready) (IsReadyWith took) (IsReadyWith (spots_of new)) (IsRun Begins (taken_at places)) (AreRecorded site next places) t u (λ w ready_so. ready_so)
            (λ es is. (p, active, is)) (λ w ready_so. subst (λ (l : List Spot). IsReadyWith l w) (append-nil (spots_of new)) ready_so) run;
        after = refl;
      }
