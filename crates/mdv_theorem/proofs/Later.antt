-- A volume that a host had open at any line stays found: over what the run did since, and over any runs of any hosts, each table that a boot may find has it where it lay, with more blocks behind or none, unless a line since may have taken it away.
use Rattle.std.proofs.Common.{◌≡◌, ◌⊎◌, inl, inr, ℕ, List, [], ◌∷◌, ◌++◌, Bool, if◌then◌else◌, Some, refl, sym, ◌∙◌, subst}
use Rattle.std.proofs.lemmas.Slice.Eq.{bytes_eq-Decides}
use Rattle.std.specs.Str.{bytes_eq}
use Rattle.mdv_base.specs.declared.name.Key.TheVariants.{Local}
use Rattle.mdv_base.specs.declared.name.VolId.{VolId}
use Rattle.mdv_engine_law.specs.Awake.{Happening}
use Rattle.mdv_engine_law.specs.Line.{Memory}
use Rattle.mdv_engine_law.specs.Standing.{IsKnown, Reached, StandsAt}
use Rattle.mdv_engine_law.specs.declared.host.Host.{Host}
use Rattle.mdv_engine_law.proofs.Going.{both_courses, may_course}
use Rattle.mdv_name.specs.declared.geometry.Geometry.{Geometry}
use Rattle.mdv_run_law.specs.Lives.{HasMetNone, IsBetween, IsHistoryOf, IsNewWord, MayBeFound, OfHost, Ran, as_it_was, crashed, host_of}
use Rattle.mdv_run_law.specs.Standing.{AreIdle, AreOfRun, Goes, HasMetInRun, RunMoment}
use Rattle.mdv_run_law.proofs.Elsewhere.{stands_elsewhere}
use Rattle.mdv_run_law.proofs.Owning.{none_own}
use Rattle.mdv_shelf.specs.Everywhere.{Image}
use Rattle.mdv_shelf.specs.Tale.{Tale}
use Rattle.mdv_shelf.proofs.Blocks.{both_ways}
use Rattle.mdv_store.specs.Opened.{Opened}
use Rattle.mdv_map.specs.Maps.{Map}
use Rattle.mdv_store_law.specs.Changes.{OfPlan}
use Rattle.mdv_store_law.specs.Log.{IsRising, Version}
use Rattle.mdv_store_law.specs.Machine as machine
use Rattle.mdv_store_law.proofs.Machine.{after_more, course_more}
use Rattle.mdv_plan.specs.declared.table.Table.{Table}
use Rattle.mdv_volumes.specs.Databases.{log_of}
use Rattle.mdv_volumes.specs.Happening as happening
use Rattle.mdv_volumes.specs.History.{Changed, Crashes, Deleted, Event, History, Stops, history_after, history_after_all}
use Rattle.mdv_volumes.specs.HistoryLaws.{KeepDatabase, KeepVolume, new_history}
use Rattle.mdv_volumes.specs.Tables.{IsMapOf}
use Rattle.mdv_volumes.proofs.Found.{AreLasting, newest_found}
use Rattle.mdv_volumes.proofs.Lasting.{lasts_over, volume_kept}
use Rattle.mdv_volumes.proofs.Made.{HasFront, VolumeStays, front_stays, has_itself}
use Rattle.mdv_volumes.proofs.Restarts.{restarts_go}
use Rattle.mdv_theorem.specs.Exchanges.{Exchange, exchanges_of}
use Rattle.mdv_theorem.specs.Running.{Runs, no_run, run_on}
use Rattle.mdv_theorem.proofs.Ends.{TakeVolume, lined_keeps}
use Rattle.mdv_theorem.proofs.Lined.{idle_quiet, run_lined}
use Rattle.mdv_theorem.proofs.Sure.{open_lasting, open_newest}

-- the lines of a run that are the host's
abbrev pub run_lines : List ℕ → Ran → List Exchange
run_lines name ran = if bytes_eq ran.host name then exchanges_of ran.script ran.bytes else []

-- those of runs, in their order
abbrev pub lines_since : (drives : Geometry) (name : List ℕ) (first : List Ran) (from : Tale) (ran : List Ran) (t : Tale) → Runs drives first from ran t → List Exchange
lines_since drives name first from ran t no_run = []
lines_since drives name first from ran t (run_on before other fresh stretch start old m next script runs of_table new_word stands tells moment found) =
    lines_since drives name first from before old.tale runs ++ run_lines name (record { host = other; fresh = fresh; script = script; bytes = stands.bytes })

module _ (drives : Geometry) (name : List ℕ) (volume : VolId) (v : Map) where
  abbrev own : Host
  own = host_of drives name 0

  -- the table has the volume, whose map begins with that one
  abbrev pub Has : Table → Type 0
  Has table = HasFront own.drives volume v table

  -- so has each table that a boot may find by the history
  abbrev pub IsLasting : History → Type 0
  IsLasting h = AreLasting own.drives Has (log_of h.databases (Local name))

  -- the drives stand behind runs with a history by which it is so
  pub record Lasts (ran : List Ran) (t : Tale) : Type 0 where
    pub held : Image
    pub of : IsHistoryOf drives name held ran t
    pub lasting : IsLasting (history_after_all new_history of.es)

  -- so they do at a moment of one more run
  pub record LastsNow (one : Ran) (before : List Ran) (m : Tale) : Type 0 where
    pub held : Image
    pub start : Tale
    pub of : IsHistoryOf drives name held before start
    pub run : List Event
    pub course : machine.IsCourse history_after (Happening own) (history_after_all new_history of.es) run
    pub of_run : OfHost name one (AreOfRun (host_of drives name one.fresh) one.script one.bytes run) (run ≡ [])
    pub stands : StandsAt own (history_after_all (history_after_all new_history of.es) run) m
    pub lasting : IsLasting (history_after_all (history_after_all new_history of.es) run)

  -- as long as no end of the database begins, and no change by which the volume goes
  pub lasting_on : (h : History) (es : List Event) → machine.IsCourse history_after (Happening own) h es → KeepDatabase (Local name) es × KeepVolume (Local name) volume es → IsLasting h → IsLasting (history_after_all h es)
  lasting_on h es course keeps are =
      lasts_over own.drives (Local name) Has (VolumeStays volume) (front_stays own.drives volume v) h es (may_course own h es course) keeps.0 (volume_kept (Local name) volume es keeps.1) are

  -- events that begin nothing leave it
  pub idle_lasts : (fresh : ℕ) (h : History) (es : List Event) → machine.IsCourse history_after (Happening own) h es → AreIdle (host_of drives name fresh) es → IsLasting h → IsLasting (history_after_all h es)
  idle_lasts fresh h es course idle are =
      let quiet = idle_quiet (host_of drives name fresh) es idle in
      lasting_on h es course (λ has. quiet (Deleted (Local name)) has, λ change has clears. quiet (Changed (Local name) (OfPlan change)) has) are

  -- what is open is the newest table, whose write was answered
  pub open_lasts : (fresh : ℕ) (memory : Memory) (h : History) (t : Tale) (o : Opened) → IsKnown (host_of drives name fresh) memory h t → memory.opened ≡ Some o → IsMapOf own.drives o.table volume v → IsLasting h
  open_lasts fresh memory h t o known opened lies = open_lasting (host_of drives name fresh) memory h t o known opened Has (has_itself own.drives volume v o.table lies)

  -- so what is open then has the volume
  pub open_has : (fresh : ℕ) (memory : Memory) (h : History) (t : Tale) (o : Opened) → IsKnown (host_of drives name fresh) memory h t → IsLasting h → memory.opened ≡ Some o → Has o.table
  open_has fresh memory h t o known is opened =
      let there = (open_newest (host_of drives name fresh) memory h t o known opened).newest in
      let found = newest_found there.version there.older (subst IsRising there.family is.is_log.rising) in
      subst Has there.same (is.all there.version (subst (λ (f : List Version). happening.MayBeFound f there.version) (sym there.family) found))

  -- a moment of one of the host's runs, by the events of the run
  module _ (before : List Ran) (fresh : ℕ) (t m : Tale) (held : Image) (of : IsHistoryOf drives name held before t) where
    abbrev its : Host
    its = host_of drives name fresh

    abbrev then_is : History
    then_is = history_after_all new_history of.es

    pub run_lasts : (one : Ran) → one.host ≡ name → one.fresh ≡ fresh → (run : List Event) → machine.IsCourse history_after (Happening own) then_is run → AreOfRun its one.script one.bytes run → StandsAt own (history_after_all then_is run) m → IsLasting (history_after_all then_is run)
        → LastsNow one before m
    run_lasts one host_is fresh_is run course come stands lasting = record {
      held = held;
      start = t;
      of = of;
      run = run;
      course = course;
      of_run = inl (host_is, subst (λ (word : ℕ). AreOfRun (host_of drives name word) one.script one.bytes run) (sym fresh_is) come);
      stands = stands;
      lasting = lasting;
    }

  -- what is found of a moment as the next run starts
  record Ends (h : History) (next : Tale) : Type 0 where
    end : List Event
    between : IsBetween end
    course : machine.IsCourse history_after (Happening own) h end
    stands : StandsAt own (history_after_all h end) next
    lasts : IsLasting h → IsLasting (history_after_all h end)

  ends : (h : History) (m next : Tale) → MayBeFound m next → StandsAt own h m → Ends h next
  ends h m next as_it_was stands =
      let is = restarts_go.ended own.drives h m stands in
      record { end = Stops ∷ []; between = inl refl; course = both_courses own h (Stops ∷ []) is.course (tt, tt); stands = is.stands; lasts = λ lasting. lasting }
  ends h m next (crashed found left) stands =
      let is = restarts_go.crashed own.drives h m found left stands in
      record { end = Stops ∷ Crashes ∷ []; between = inr refl; course = both_courses own h (Stops ∷ Crashes ∷ []) is.course (tt, (tt, tt)); stands = is.stands; lasts = λ lasting. lasting }

  pub lasts_between : (one : Ran) (before : List Ran) (m next : Tale) → MayBeFound m next → LastsNow one before m → Lasts (one ∷ before) next
  lasts_between one before m next found is =
      let old = is.of in
      let there = history_after_all new_history old.es in
      let end = ends (history_after_all there is.run) m next found is.stands in
      let all = is.run ++ end.end in
      let same : history_after_all new_history (old.es ++ all) ≡ history_after_all (history_after_all there is.run) end.end = after_more history_after new_history old.es all ∙ after_more history_after there is.run end.end in
      record {
        held = is.held;
        of = record {
          es = old.es ++ all;
          course = course_more history_after (Happening own) new_history old.es all old.course (course_more history_after (Happening own) there is.run end.end is.course end.course);
          come = (old.es, is.run, end.end, refl, old.come, is.of_run, end.between);
          stands = subst (λ (h : History). StandsAt own h next) (sym same) end.stands;
        };
        lasting = subst IsLasting (sym same) (end.lasts is.lasting);
      }

  -- a run of the host, or of another one
  lasts_own : (one : Ran) (before : List Ran) (t m : Tale) → one.host ≡ name → IsNewWord name one.fresh before → (moment : RunMoment (host_of drives name one.fresh) one.script t m) → moment.bytes ≡ one.bytes → HasMetNone drives name before one.fresh one.script t m → Lasts before t
      → TakeVolume volume (exchanges_of one.script one.bytes) ⊎ LastsNow one before m
  lasts_own one before t m host_is new_word moment same none is = by (moment.stands (history_after_all new_history is.of.es) is.of.stands (none_own drives name before one.fresh is.of.es new_word is.of.come)) where
    by : HasMetInRun (host_of drives name one.fresh) one.script t m (history_after_all new_history is.of.es) ⊎ Goes (host_of drives name one.fresh) (AreOfRun (host_of drives name one.fresh) one.script moment.bytes) Reached m (history_after_all new_history is.of.es) → TakeVolume volume (exchanges_of one.script one.bytes) ⊎ LastsNow one before m
    by (inl met) = absurd (none is.held is.of met)
    by (inr went) =
        let host = host_of drives name one.fresh in
        let there = history_after_all new_history is.of.es in
        let come : AreOfRun host one.script one.bytes went.es = subst (λ (l : List ℕ). AreOfRun host one.script l went.es) same went.come in
        elim (lined_keeps drives name volume (exchanges_of one.script one.bytes) went.es (run_lined drives name one.fresh one.script one.bytes went.es come)) [
          | inl takes ↦ inl takes
          | inr keeps ↦ inr (run_lasts before one.fresh t m is.held is.of one host_is refl went.es went.course come went.stands (lasting_on there went.es went.course keeps is.lasting))
        ]

  pub lasts_run : (one : Ran) (before : List Ran) (t m : Tale) → IsNewWord one.host one.fresh before → (moment : RunMoment (host_of drives one.host one.fresh) one.script t m) → moment.bytes ≡ one.bytes → HasMetNone drives one.host before one.fresh one.script t m → Lasts before t
      → TakeVolume volume (run_lines name one) ⊎ LastsNow one before m
  lasts_run one before t m new_word moment told none is = elim (both_ways (bytes_eq one.host name)) [
    | inl does ↦
        let same : one.host ≡ name = (bytes_eq-Decides one.host name).0 does in
        let its = subst (λ (h : List ℕ). IsNewWord h one.fresh before → (moment : RunMoment (host_of drives h one.fresh) one.script t m) → moment.bytes ≡ one.bytes → HasMetNone drives h before one.fresh one.script t m → TakeVolume volume (exchanges_of one.script one.bytes) ⊎ LastsNow one before m)
        (sym same) (λ new_word moment told none. lasts_own one before t m same new_word moment told none is) in
        subst (λ (b : Bool). TakeVolume volume (if b then exchanges_of one.script one.bytes else []) ⊎ LastsNow one before m) (sym does) (its new_word moment told none)
    | inr never ↦
        let differ : one.host ≡ name → ⊥ = λ same. (let does = (bytes_eq-Decides one.host name).1 same in cc (does, never)) in
        inr (record {
          held = is.held;
          start = t;
          of = is.of;
          run = [];
          course = tt;
          of_run = inr (differ, refl);
          stands = stands_elsewhere drives name one.host 0 one.fresh differ (history_after_all new_history is.of.es) t m moment.home is.of.stands;
          lasting = is.lasting;
        })
  ]
