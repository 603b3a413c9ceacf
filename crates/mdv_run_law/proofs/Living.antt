-- Standing over every life.
use Rattle.std.proofs.Common.{◌≡◌, ◌≢◌, ◌⊎◌, inl, inr, ℕ, List, [], ◌∷◌, ◌++◌, reverse, Option, Some, None, IfSome, Contains, refl, sym, ◌∙◌, ap, subst, arith}
use Rattle.std.proofs.lemmas.List.{append-nil, reverse-append}
use Rattle.std.proofs.lemmas.Slice.Eq.{bytes_eq-Decides}
use Rattle.std.specs.Str.{bytes_eq}
use Rattle.std.proofs.lemmas.List.Elements.{All-contains, Contains-append_cases, Contains-append_left, Contains-append_right}
use Rattle.mdv_databases.proofs.Lists.{current_in}
use Rattle.mdv_databases.specs.Going.{IsOpenIn}
use Rattle.mdv_run_law.specs.Below.{AreMade, AreOwn, BootedTo, Change, Changed, Crashes, Created, Deed, Deleted, Event, Extends, Geometry, Happening, BootBegins, HasNoTableOn, History, Host, Image, IsCourse, IsKnown, IsOpenedAt, Key, Local, Log, Memory, Opened, Script, StandsAt, Stops, Tale, Version, empty_log, history_after, history_after_all, issued_by, last, log_of, new_history, own_view, replies_in, told_by}
use Rattle.mdv_shelf.proofs.Blocks.{both_ways}
use Rattle.mdv_shelf.proofs.Everywhere.{last_image}
use Rattle.mdv_store.specs.Commit.{IsNewestWritten}
use Rattle.mdv_store_law.specs.Log as log
use Rattle.mdv_store_law.specs.Log.{IsDescended, IsHeld, IsLog, changes_of}
use Rattle.mdv_store_law.specs.Machine as machine
use Rattle.mdv_store_law.specs.Part.{IsPart}
use Rattle.mdv_store_law.proofs.Fates.{lives_there}
use Rattle.mdv_store_law.proofs.Families.{extends_more, newest_extends}
use Rattle.mdv_store_law.proofs.Machine.{after_more, all_more, course_more}
use Rattle.mdv_store_law.proofs.Orders.{IsToldPart, all_told, all_written, none_struck, oldest_extended, told_since}
use Rattle.mdv_store_law.specs.Changes.{OfPlan}
use Rattle.mdv_change.specs.declared.change.Change.{Change as PlanChange}
use Rattle.mdv_store_law.proofs.Parts.{part_of_part}
use Rattle.mdv_home.proofs.Viewing.{view_is_own}
use Rattle.mdv_volumes.specs.Happening.{begins, deed_of, tells}
use Rattle.mdv_volumes.specs.HistoryLaws.{KeepDatabase, database_deeds, log_events_of}
use Rattle.mdv_databases.specs.Booting.{AllLive}
use Rattle.mdv_volumes.proofs.Alive.{each_lives}
use Rattle.mdv_volumes.proofs.Ending.{none_begins}
use Rattle.mdv_volumes.proofs.Databases.{is_log_of}
use Rattle.mdv_volumes.proofs.Keys.{databases_live}
use Rattle.mdv_volumes.proofs.Lists.{contains_first}
use Rattle.mdv_volumes.proofs.Restarts.{restarts_go}
use Rattle.mdv_volumes.proofs.Told.{told_writes_last}
use Rattle.mdv_engine_law.specs.Standing as turn
use Rattle.mdv_engine_law.proofs.Going.{both_courses, may_course}
use Rattle.mdv_run_law.specs.Standing.{AreOfRun, IsTold, RunMoment}
use Rattle.mdv_run_law.specs.Lives.{Ran, MayBeFound, as_it_was, crashed, Life, new_drives, run_on, AreOfRuns, BootMeetsNone, HasMetNone, HaveMetNone, IsBetween, IsFair, IsGone, IsNewWord, HaveSaid, MayHaveEnded, OfHost, IsHistoryOf, HasToldChanges, LivesStand, HostsSee, DatabaseIsFound, BlocksAre, BlocksHold, ShowsOwn, changes_in, host_of}
use Rattle.mdv_run_law.proofs.Asked.{runs_answer, runs_keep, told_ended}
use Rattle.mdv_run_law.proofs.Coming.{HasLike, IsDone, like_before, like_behind, made_like, sure_like}
use Rattle.mdv_run_law.proofs.Deeds.{change_has, deed_has, part_changes, part_contains, part_deeds}
use Rattle.mdv_run_law.proofs.Elsewhere.{stands_elsewhere}
use Rattle.mdv_run_law.proofs.Gone.{gone_more, gone_over}
use Rattle.mdv_run_law.proofs.Looked.{finds_one, finds_table}
use Rattle.mdv_store_law.proofs.Logs.{empty_is_log}
use Rattle.mdv_run_law.proofs.Made.{run_told, told_lives, told_shown}
use Rattle.mdv_run_law.proofs.Owning.{none_own, runs_own}
use Rattle.mdv_run_law.proofs.Struck.{since_creation}

-- what is among changes is among them in any order
pub among_reversed : (changes : List Change) (change : Change) → Contains (reverse changes) change → Contains changes change
among_reversed [] change has = absurd (omega (arith, has.1))
among_reversed (c ∷ changes) change has = elim (Contains-append_cases (reverse changes) (c ∷ []) change (subst (λ (l : List Change). Contains l change) (reverse-append (c ∷ []) changes) has)) [
  | inl behind ↦ Contains-append_right (c ∷ []) changes change (among_reversed changes change behind)
  | inr here ↦ Contains-append_left (c ∷ []) changes change here
]

-- a change that was told is among those of an acknowledged table, and so of one that has these
found_part : (g : Geometry) (acknowledged : Option (List Change)) (told changes : List Change) → ((later : List Change) → acknowledged ≡ Some later → Extends changes later) → IsToldPart g acknowledged told → IsPart told (reverse changes)
found_part g None told changes has none = subst (λ (l : List Change). IsPart l (reverse changes)) (sym none) tt
found_part g (Some later) told changes has part = oldest_extended changes later told (has later refl) part

-- what one of the host's runs told, its events tell, or another deed that the line may come to
here_told : (drives : Geometry) (name : List ℕ) (ran : Ran) (es : List Event) (deed : Deed) → IsDone deed → OfHost name ran (AreOfRun (host_of drives name ran.fresh) ran.script ran.bytes es) (es ≡ []) → ran.host ≡ name
    → IsTold (host_of drives name ran.fresh) ran.script (replies_in ran.bytes) deed → HasLike (told_by es) deed
here_told drives name ran es deed done (inl of_host) same is = run_told (host_of drives name ran.fresh) ran.script ran.bytes es deed done of_host.1 is
here_told drives name ran es deed done (inr of_other) same is = absurd (of_other.0 same)

-- so it is of all of them
said_told : (drives : Geometry) (name : List ℕ) (ran : List Ran) (es : List Event) (deed : Deed) → IsDone deed → AreOfRuns drives name ran es → HaveSaid drives name ran deed → HasLike (told_by es) deed
said_told drives name [] es deed done are said = absurd said
said_told drives name (run ∷ before) es deed done are (inl is) =
    like_behind are.0 (are.1 ++ are.2) es are.3 deed (subst (λ (l : List Deed). HasLike l deed) (sym (told_ended are.1 are.2 are.6)) (here_told drives name run are.1 deed done are.5 is.0 is.1))
said_told drives name (run ∷ before) es deed done are (inr said) = like_before are.0 (are.1 ++ are.2) es are.3 deed (said_told drives name before are.0 deed done are.4 said)

-- a creation, or a change by which places came; and a change of the plan itself
said_made : (drives : Geometry) (name : List ℕ) (ran : List Ran) (es : List Event) → AreOfRuns drives name ran es → HaveSaid drives name ran (Created (Local name)) → (asked : Option Change) × Contains (told_by es) (deed_of (Local name) asked)
said_made drives name ran es are said =
    let like = said_told drives name ran es (Created (Local name)) tt are said in
    let made = made_like (Local name) like.0 like.2 in
    (made.0, subst (λ (d : Deed). Contains (told_by es) d) made.1 like.1)

said_planned : (drives : Geometry) (name : List ℕ) (ran : List Ran) (es : List Event) (change : PlanChange) → AreOfRuns drives name ran es → HaveSaid drives name ran (Changed (Local name) (OfPlan change)) → Contains (told_by es) (Changed (Local name) (OfPlan change))
said_planned drives name ran es change are said =
    let deed = Changed (Local name) (OfPlan change) in
    let like = said_told drives name ran es deed tt are said in
    subst (λ (d : Deed). Contains (told_by es) d) (sym (sure_like deed like.0 tt like.2)) like.1

-- what is said unless a stale vote was met, where none was
pub unmet : {M A : Type 0} → (M → ⊥) → M ⊎ A → A
unmet none (inl met) = absurd (none met)
unmet none (inr is) = is

none_part : {X : Type 0} (part : List X) → IsPart part [] → part ≡ []
none_part [] is = refl
none_part (x ∷ part) is = absurd is

-- What is open where the drives stand has the newest table of its log, by changes among which are all that were told.
module _ (g : Geometry) (lg : Log) (is_log : IsLog g lg) (o : Opened) (newest : IsNewestWritten lg o.mark o.table) where
  abbrev version : Version
  version = newest.newest.version

  one_of : Contains lg.family version
  one_of = subst (λ (vs : List Version). Contains vs version) (sym newest.newest.family) (contains_first version newest.newest.older)

  its_made : AreMade g version.changes o.table
  its_made = subst (AreMade g version.changes) newest.newest.same (All-contains (λ (v : Version). AreMade g v.changes v.table) lg.family version is_log.made one_of)

  held_has : (told : List Change) → IsHeld lg.family told → Extends version.changes told
  held_has told held =
      extends_more version.changes held.by.changes told
      (newest_extends version held.by newest.newest.older (subst IsDescended newest.newest.family is_log.descended) (subst (λ (vs : List Version). Contains vs held.by) newest.newest.family held.one_of) held.written) held.has

  has_told : (later : List Change) → lg.acknowledged ≡ Some later → Extends version.changes later
  has_told later same = held_has later (is_log.held later same)

module _ (drives : Geometry) (name : List ℕ) where
  abbrev host : Host
  host = host_of drives name 0

  abbrev view : Geometry
  view = own_view drives name

  abbrev key : Key
  key = Local name

  abbrev Course : History → List Event → Type 0
  Course = machine.IsCourse history_after (Happening host)

  module _ (made : Image) (one_of_table : Contains drives.hosts name) where
    -- what happens between two runs
    pub record Ends (h : History) (next : Tale) : Type 0 where
      pub end : List Event
      pub between : IsBetween end
      pub course : Course h end
      pub stands : StandsAt host (history_after_all h end) next

    -- what is found stands with what was there, and the end of the run
    pub ends : (h : History) (m next : Tale) → MayBeFound m next → StandsAt host h m → Ends h next
    ends h m next as_it_was stands =
        let is = restarts_go.ended view h m stands in
        record { end = Stops ∷ []; between = inl refl; course = both_courses host h (Stops ∷ []) is.course (tt, tt); stands = is.stands }
    ends h m next (crashed found left) stands =
        let is = restarts_go.crashed view h m found left stands in
        record { end = Stops ∷ Crashes ∷ []; between = inr refl; course = both_courses host h (Stops ∷ Crashes ∷ []) is.course (tt, (tt, tt)); stands = is.stands }

    -- a run more, and what comes behind it
    run_more : (before : List Ran) (run : Ran) (es more : List Event) (next : Tale) → Course new_history es → AreOfRuns drives name before es → Course (history_after_all new_history es) more
        → OfHost name run (AreOfRun (host_of drives name run.fresh) run.script run.bytes more) (more ≡ []) → Ends (history_after_all (history_after_all new_history es) more) next → IsHistoryOf drives name made (run ∷ before) next
    run_more before run es more next course are also of_run ends = record {
      es = es ++ (more ++ ends.end);
      course = course_more history_after (Happening host) new_history es (more ++ ends.end) course (course_more history_after (Happening host) (history_after_all new_history es) more ends.end also ends.course);
      come = (es, more, ends.end, refl, are, of_run, ends.between);
      stands = subst (λ (h : History). StandsAt host h next) (sym (after_more history_after new_history es (more ++ ends.end) ∙ after_more history_after (history_after_all new_history es) more ends.end)) ends.stands;
    }

    -- a run of this host goes on with what it did
    own_run : (before : List Ran) (fresh : ℕ) (from m next : Tale) (script : Script) → IsHistoryOf drives name made before from → IsNewWord name fresh before → HasMetNone drives name before fresh script from m → (moment : RunMoment (host_of drives name fresh) script from m) → MayBeFound m next
        → IsHistoryOf drives name made (record { host = name; fresh = fresh; script = script; bytes = moment.bytes } ∷ before) next
    own_run before fresh from m next script old new none moment found =
        let then = history_after_all new_history old.es in
        let more = unmet (none made old) (moment.stands then old.stands (none_own drives name before fresh old.es new old.come)) in
        run_more before (record { host = name; fresh = fresh; script = script; bytes = moment.bytes }) old.es more.es next old.course old.come more.course (inl (refl, more.come)) (ends (history_after_all then more.es) m next found more.stands)

    -- one of another host leaves the drives as they stood
    other_run : (before : List Ran) (other : List ℕ) (fresh : ℕ) (from m next : Tale) (script : Script) → IsHistoryOf drives name made before from → other ≢ name → (moment : RunMoment (host_of drives other fresh) script from m) → MayBeFound m next
        → IsHistoryOf drives name made (record { host = other; fresh = fresh; script = script; bytes = moment.bytes } ∷ before) next
    other_run before other fresh from m next script old differ moment found =
        let then = history_after_all new_history old.es in
        run_more before (record { host = other; fresh = fresh; script = script; bytes = moment.bytes }) old.es [] next old.course old.come tt (inr (differ, refl))
        (ends then m next found (stands_elsewhere drives name other 0 fresh differ then from m moment.home old.stands))

    any_run : (before : List Ran) (other : List ℕ) (fresh : ℕ) (from m next : Tale) (script : Script) → IsHistoryOf drives name made before from → IsNewWord other fresh before → HasMetNone drives other before fresh script from m → (moment : RunMoment (host_of drives other fresh) script from m) → MayBeFound m next
        → IsHistoryOf drives name made (record { host = other; fresh = fresh; script = script; bytes = moment.bytes } ∷ before) next
    any_run before other fresh from m next script old new none moment found = elim (both_ways (bytes_eq name other)) [
      | inl does ↦
          subst (λ (n : List ℕ). IsNewWord n fresh before → HasMetNone drives n before fresh script from m → (moment : RunMoment (host_of drives n fresh) script from m) → IsHistoryOf drives name made (record { host = n; fresh = fresh; script = script; bytes = moment.bytes } ∷ before) next)
          ((bytes_eq-Decides name other).0 does) (λ new none moment. own_run before fresh from m next script old new none moment found) new none moment
      | inr never ↦ other_run before other fresh from m next script old (λ same. (let does = (bytes_eq-Decides name other).1 (sym same) in cc (does, never))) moment found
    ]

    lives : (ran : List Ran) (t : Tale) (life : Life drives made ran t) → IsFair ran → HaveMetNone life → IsHistoryOf drives name made ran t
    lives ran t (new_drives told none) fair clean = record { es = []; course = tt; come = refl; stands = restarts_go.new_drives view made told (none name one_of_table) }
    lives ran t (run_on before other fresh from m next script life its moment found) fair clean = any_run before other fresh from m next script (lives before from life fair.1 clean.0) fair.0 clean.1 moment found

    -- the log of such a history
    module _ (ran : List Ran) (t : Tale) (is : IsHistoryOf drives name made ran t) where
      abbrev now : History
      now = history_after_all new_history is.es

      its_may : IsCourse view new_history is.es
      its_may = may_course host new_history is.es is.course

      -- no end of the database begins, where no line may have begun one
      keeps : (MayHaveEnded drives name ran → ⊥) → KeepDatabase key is.es
      keeps = runs_keep drives name ran is.es is.come

      each_live : (MayHaveEnded drives name ran → ⊥) → AllLive now.databases key
      each_live never = each_lives key view new_history is.es its_may (keeps never) (λ d has. absurd (omega (arith, has.1)))

      -- some replica shows a table where a creation was told
      shows_own : HaveSaid drives name ran (Created key) → (MayHaveEnded drives name ran → ⊥) → ShowsOwn drives name ran (last t)
      shows_own said never =
          let made = said_made drives name ran is.es is.come said in
          let told = told_lives host new_history is.es is.course (keeps never) (empty_is_log view) made.0 made.1 in
          let shown = told_shown view now.databases key t is.stands.databases told.0 told.1 in
          record {
            identity = shown.0.identity;
            of_run = (runs_own drives name ran is.es is.come shown.0 (current_in key now.databases shown.0 shown.1)).1;
            shown = shown.2 (last t) (last_image t);
          }

      is_found : HaveSaid drives name ran (Created key) → (MayHaveEnded drives name ran → ⊥) → HasNoTableOn view key (last t) → ⊥
      is_found said never none = let shown = shows_own said never in shown.shown (none shown.identity)

      -- each block of a volume reads as the history has it, and writes that were told last
      blocks_are : BlocksAre drives name made ran t
      blocks_are = record {
        history = is;
        reads = λ volume v named b x lt among. (is.stands.volumes key volume v named).reads b x lt among;
        lasts = λ es later place other volume at blocks same keep stays. told_writes_last view new_history es later place other volume at blocks (λ k. empty_is_log view) (subst (IsCourse view new_history) same its_may) keep stays;
      }

      -- the next run's boot
      module _ (u : Tale) (fresh : ℕ) (memory : Memory) (new : IsNewWord name fresh ran) (none : BootMeetsNone drives name ran fresh t) (booted : BootedTo (host_of drives name fresh) memory t u) (begun : memory.begun ≡ 0) where
        went : turn.Goes (host_of drives name fresh) [] [] (λ es after. IsKnown (host_of drives name fresh) memory after u × BootBegins key memory.up es) u now
        went = unmet (none made is) (booted.goes now is.stands (subst (λ (n : ℕ). AreOwn (host_of drives name fresh) n now) (sym begun) (none_own drives name ran fresh is.es new is.come)))

        abbrev all : List Event
        all = is.es ++ went.es

        abbrev after : History
        after = history_after_all new_history all

        known : IsKnown (host_of drives name fresh) memory after u
        known = subst (λ (h : History). IsKnown (host_of drives name fresh) memory h u) (sym (after_more history_after new_history is.es went.es)) went.after.0

        abbrev database : Log
        database = log_of after.databases key

        abbrev events : List log.Event
        events = log_events_of key all

        all_may : IsCourse view new_history all
        all_may = may_course host new_history all (course_more history_after (Happening host) new_history is.es went.es is.course went.course)

        its_log : database ≡ log.log_after_all empty_log events
        its_log = databases_live.is key view new_history all all_may

        its_course : log.IsCourse view empty_log events
        its_course = databases_live.may key view new_history all all_may

        -- the boot tells and begins nothing
        same_told : told_by all ≡ told_by is.es
        same_told = all_more tells is.es went.es ∙ ap (λ (l : List Deed). told_by is.es ++ l) went.come.tells ∙ append-nil (told_by is.es)

        same_begun : issued_by all ≡ issued_by is.es
        same_begun = all_more begins is.es went.es ∙ ap (λ (l : List Deed). issued_by is.es ++ l) (none_part (issued_by went.es) went.come.begins) ∙ append-nil (issued_by is.es)

        its_open : (o : Opened) → memory.opened ≡ Some o → (o.key ≡ key) × IsOpenIn view o after.databases u
        its_open o opened = (
          (subst (λ (x : Option Opened). IfSome x (λ o. (o.key ≡ key) × IsOpenedAt view o u)) opened known.knows.opened).0,
          subst (λ (x : Option Opened). IfSome x (λ o. IsOpenIn view o after.databases u)) opened known.is_open,
        )

        -- it adopts none, where the last one was deleted
        adopts_none : IsGone key is.es → memory.opened ≡ None
        adopts_none gone = by memory.opened refl where
          over : database.fate ≡ log.Over
          over = gone_over key view all all_may (gone_more key is.es went.es (none_part (issued_by went.es) went.come.begins) gone)

          by : (opened : Option Opened) → memory.opened ≡ opened → memory.opened ≡ None
          by None is = is
          by (Some o) is =
              let its = its_open o is in
              absurd (lives_there database.fate (subst (λ (k : Key). (log_of after.databases k).fate ≡ log.Lives) its.0 its.1.lives) over)

        -- and one that it adopted
        module _ (o : Opened) (opened : memory.opened ≡ Some o) where
          is_newest : IsNewestWritten database o.mark o.table
          is_newest = subst (λ (k : Key). IsNewestWritten (log_of after.databases k) o.mark o.table) (its_open o opened).0 (its_open o opened).1.newest

          is_log : IsLog view database
          is_log = is_log_of view after.databases u known.stands.databases key

          abbrev changes : List Change
          changes = is_newest.newest.version.changes

          -- the changes that the events tell since the database was last created are those of a table that has what is acknowledged, in order
          among_changes : (told : List Change) → told_since view [] events ≡ told → IsPart told (reverse changes)
          among_changes told same =
              let part = all_told view empty_log events [] (empty_is_log view) refl its_course in
              found_part view database.acknowledged told changes (has_told view database is_log o is_newest)
              (subst (λ (l : List Change). IsToldPart view database.acknowledged l) same (subst (λ (lg : Log). IsToldPart view lg.acknowledged (told_since view [] events)) (sym its_log) part))

          -- so it is of all of them, where no end of it began
          in_order : (MayHaveEnded drives name ran → ⊥) → IsPart (changes_in key (told_by is.es)) (reverse changes)
          in_order never =
              let keep : KeepDatabase key all = subst (λ (l : List Deed). Contains l (Deleted key) → ⊥) (sym same_begun) (keeps never) in
              among_changes (changes_in key (told_by is.es))
              (none_struck view empty_log events [] (empty_is_log view) refl its_course (none_begins key all keep) refl ∙ ap changes_of (databases_live.tells key all) ∙ ap (changes_in key) same_told)

          -- and those of each table were begun in their order
          begun_part : IsPart (reverse changes) (changes_in key (issued_by is.es))
          begun_part =
              let version = is_newest.newest.version in
              let written = all_written view empty_log events [] (λ w none. absurd (omega (arith, none.1))) its_course in
              let same : changes_of (log.begun_by events) ≡ changes_in key (issued_by is.es) = ap changes_of (databases_live.begins key all) ∙ ap (changes_in key) same_begun in
              subst (λ (l : List Change). IsPart (reverse changes) l) same (written version (subst (λ (lg : Log). Contains lg.family version) its_log (one_of view database is_log o is_newest)))

          has_changes : HasToldChanges drives name made ran t fresh memory u o.table
          has_changes =
              let answers = runs_answer drives name ran is.es is.come in
              let since = since_creation view key all all_may in
              record {
                history = is;
                boot = went.es;
                idle = went.come;
                known = known;
                version = is_newest.newest.version;
                one_of = one_of view database is_log o is_newest;
                is_table = is_newest.newest.same;
                by = its_made view database is_log o is_newest;
                since = since.0;
                told_since = among_changes (changes_in key (told_by since.0.since)) since.1;
                told = λ never change said.
                    among_reversed changes (OfPlan change) (part_contains (changes_in key (told_by is.es)) (reverse changes) (OfPlan change) (in_order never)
                    (change_has (database_deeds key (told_by is.es)) (OfPlan change) (deed_has key (told_by is.es) (Some (OfPlan change)) (said_planned drives name ran is.es change is.come said))));
                said = answers.said;
                are_said = answers.are_said;
                all_said = λ never. subst (λ (l : List Deed). IsPart (changes_in key l) (reverse changes)) answers.tells (in_order never);
                asked = answers.asked;
                are_asked = answers.are_asked;
                all_asked = part_of_part (reverse changes) (changes_in key (issued_by is.es)) (changes_in key answers.asked) begun_part
                    (part_changes (database_deeds key (issued_by is.es)) (database_deeds key answers.asked) (part_deeds key (issued_by is.es) answers.asked answers.begins));
              }

pub lives_stand : LivesStand
lives_stand = λ drives name made ran t one_of is. lives drives name made one_of ran t is.life is.fair is.clean

pub hosts_see : HostsSee
hosts_see = λ drives name made ran t fresh one_of is. record { table = drives; name = name; key = refl; view = refl; site = refl; sound = view_is_own.sound drives name is.sound }

pub database_is_found : DatabaseIsFound
database_is_found = record {
  found = λ drives name made ran t one_of is said never none. is_found drives name made one_of ran t (lives_stand drives name made ran t one_of is) said never none;
  made = λ drives name made ran t one_of is said never. shows_own drives name made one_of ran t (lives_stand drives name made ran t one_of is) said never;
  not_empty = λ drives name made ran t up survey one_of is said never finds read none.
      is_found drives name made one_of ran t (lives_stand drives name made ran t one_of is) said never
      (finds_table (own_view drives name) (Local name) up t survey finds.of finds.survey_is read none);
  one = λ drives name made ran t up survey a b one_of is never finds chosen.
      let its = lives_stand drives name made ran t one_of is in
      finds_one (own_view drives name) (Local name) up t survey finds.of (history_after_all new_history its.es).databases its.stands.databases (each_live drives name made one_of ran t its never) a b chosen;
  table = λ drives name made ran t u fresh memory o one_of is new none booted begun opened.
      has_changes drives name made one_of ran t (lives_stand drives name made ran t one_of is) u fresh memory new none booted begun o opened;
  gone = λ drives name made ran t u fresh memory one_of history gone new none booted begun. adopts_none drives name made one_of ran t history u fresh memory new none booted begun gone;
}

pub blocks_hold : BlocksHold
blocks_hold = λ drives name made ran t one_of is. blocks_are drives name made one_of ran t (lives_stand drives name made ran t one_of is)
