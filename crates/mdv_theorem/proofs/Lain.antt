-- Behind runs of any hosts the lists of places that a boot may find lie on slices that the host's lines may have come to.
use Rattle.std.proofs.Common.{◌≡◌, ◌≢◌, inl, inr, ℕ, List, [], ◌∷◌, ◌++◌, Contains, refl, sym, ◌∙◌, ap, subst}
use Rattle.std.proofs.lemmas.List.{append_cancel_left}
use Rattle.mdv_base.specs.declared.drive.SliceName.{SliceName}
use Rattle.mdv_engine_law.specs.Awake.{Happening}
use Rattle.mdv_engine_law.specs.Standing.{AreOwn, StandsAt}
use Rattle.mdv_engine_law.specs.declared.host.Host.{Host}
use Rattle.mdv_engine_law.proofs.Going.{may_course}
use Rattle.mdv_name.specs.declared.geometry.Geometry.{Geometry}
use Rattle.mdv_port.specs.Script.{Script}
use Rattle.mdv_run_law.specs.Lives.{HasMetNone, IsHistoryOf, IsNewWord, MayBeFound, OfHost, Ran, host_of}
use Rattle.mdv_run_law.specs.Run.{Counts, Stretch}
use Rattle.mdv_run_law.specs.Standing.{AreOfRun, RunMoment}
use Rattle.mdv_run_law.specs.Told.{IsToldBy}
use Rattle.mdv_run_law.proofs.Elsewhere.{stands_elsewhere}
use Rattle.mdv_run_law.proofs.Living.{Ends, ends, unmet}
use Rattle.mdv_run_law.proofs.Owning.{none_own}
use Rattle.mdv_shelf.specs.Everywhere.{Image}
use Rattle.mdv_shelf.specs.Story.{Moment}
use Rattle.mdv_shelf.specs.Tale.{Tale, told}
use Rattle.mdv_store_law.specs.Machine as machine
use Rattle.mdv_store_law.proofs.Machine.{after_more, course_more}
use Rattle.mdv_volumes.specs.History.{Deleted, Event, History, history_after, history_after_all}
use Rattle.mdv_volumes.specs.HistoryLaws.{new_history}
use Rattle.mdv_theorem.specs.Exchanges.{Exchange, exchanges, exchanges_of}
use Rattle.mdv_theorem.specs.Running.{IsMomentOf}
use Rattle.mdv_theorem.specs.Words.{KeepsDatabase}
use Rattle.mdv_theorem.proofs.Behind.{RunLies, lined_lies, told_lies}
use Rattle.mdv_theorem.proofs.Fronts.{AreUntold, none_told}
use Rattle.mdv_theorem.proofs.Lined.{between_quiet, run_lined}
use Rattle.mdv_theorem.proofs.Lists.{ListsLie, key, lie_quiet}
use Rattle.mdv_engine_law.proofs.Plain.{nothing_answers}
use Rattle.mdv_status.specs.Telling.{replies_in}

module _ (drives : Geometry) (name : List ℕ) (of_table : Contains drives.hosts name) (made : Image) (from : List SliceName) where
  abbrev own : Host
  own = host_of drives name 0

  pub record LieBehind (lines : List Exchange) (ran : List Ran) (t : Tale) : Type 0 where
    pub history : IsHistoryOf drives name made ran t
    pub lie : ListsLie drives name from lines (history_after_all new_history history.es)

  -- a run more, and what is found as the next one starts
  pub behind_more : (lines : List Exchange) (before : List Ran) (run : Ran) (t next : Tale) (old : IsHistoryOf drives name made before t) (more : List Event) → machine.IsCourse history_after (Happening own) (history_after_all new_history old.es) more
      → OfHost name run (AreOfRun (host_of drives name run.fresh) run.script run.bytes more) (more ≡ []) → ListsLie drives name from lines (history_after_all (history_after_all new_history old.es) more)
      → Ends drives name made of_table (history_after_all (history_after_all new_history old.es) more) next → LieBehind lines (run ∷ before) next
  behind_more lines before run t next old more course of_run lie over =
      let h = history_after_all new_history old.es in
      let there = history_after_all h more in
      let quiet = between_quiet over.end over.between in
      let behind = lie_quiet drives name from lines there over.end (may_course own there over.end over.course) (λ has. quiet (Deleted (key drives name from)) has) lie quiet in
      let same : history_after_all new_history (old.es ++ (more ++ over.end)) ≡ history_after_all there over.end = after_more history_after new_history old.es (more ++ over.end) ∙ after_more history_after h more over.end in
      record {
        history = record {
          es = old.es ++ (more ++ over.end);
          course = course_more history_after (Happening own) new_history old.es (more ++ over.end) old.course (course_more history_after (Happening own) h more over.end course over.course);
          come = (old.es, more, over.end, refl, old.come, of_run, over.between);
          stands = subst (λ (g : History). StandsAt own g next) (sym same) over.stands;
        };
        lie = subst (ListsLie drives name from lines) (sym same) behind;
      }

  -- a run of the host
  module _ (lines : List Exchange) (before : List Ran) (fresh : ℕ) (script : Script) (stretch : Stretch) (start : Counts) (t m : Moment) (next : Tale) (new : IsNewWord name fresh before) (stands : RunMoment (host_of drives name fresh) script t.tale m.tale)
      (tells : IsToldBy (host_of drives name fresh) stretch start script t m) (moment : IsMomentOf stretch t m) (none : HasMetNone drives name before fresh script t.tale m.tale) (found : MayBeFound m.tale next) (keeps : KeepsDatabase (exchanges_of script stands.bytes)) (lies : LieBehind lines before t.tale) where
    abbrev its : Host
    its = host_of drives name fresh

    abbrev h : History
    h = history_after_all new_history lies.history.es

    abbrev ran : Ran
    ran = record { host = name; fresh = fresh; script = script; bytes = stands.bytes }

    same_bytes : tells.bytes ≡ stands.bytes
    same_bytes = append_cancel_left (told t.tale) tells.bytes stands.bytes (sym tells.is_told ∙ stands.is_told)

    owned : AreOwn its 0 h
    owned = none_own drives name before fresh lies.history.es new lies.history.come

    -- nothing was told of it
    quiet_lies : tells.bytes ≡ [] → RunLies drives name from its script stands.bytes h (lines ++ exchanges_of script stands.bytes) m.tale
    quiet_lies nothing =
        let went = unmet (none made lies.history) (stands.stands h lies.history.stands owned) in
        let untold_all : AreUntold (exchanges_of script stands.bytes) = subst (λ (l : List (List ℕ)). AreUntold (exchanges script l)) (sym nothing_answers ∙ ap replies_in (sym nothing ∙ same_bytes)) (none_told script) in
        record {
          es = went.es;
          course = went.course;
          come = went.come;
          stands = went.stands;
          lie = lined_lies drives name from lines (exchanges_of script stands.bytes) h went.es (may_course its h went.es went.course) keeps untold_all (run_lined drives name fresh script stands.bytes went.es went.come) lies.lie;
        }

    run_lies : RunLies drives name from its script stands.bytes h (lines ++ exchanges_of script stands.bytes) m.tale
    run_lies = elim tells.tells [
      | inl nothing ↦ quiet_lies nothing.0
      | inr by ↦ subst (λ (l : List ℕ). RunLies drives name from its script l h (lines ++ exchanges_of script l) m.tale) same_bytes
          (told_lies drives name from fresh script stretch start h t m tells (λ met. none made lies.history met) lies.history.stands owned moment.begins.0 moment.begins.1 moment.begins.2 lines
          (subst (λ (l : List ℕ). KeepsDatabase (exchanges_of script l)) (sym same_bytes) keeps) lies.lie by)
    ]

    pub own_behind : LieBehind (lines ++ exchanges_of script stands.bytes) (ran ∷ before) next
    own_behind =
        let run = run_lies in
        behind_more (lines ++ exchanges_of script stands.bytes) before ran t.tale next lies.history run.es run.course (inl (refl, run.come)) run.lie (ends drives name made of_table (history_after_all h run.es) m.tale next found run.stands)

  -- and one of another host, which leaves them
  pub other_behind : (lines : List Exchange) (before : List Ran) (other : List ℕ) (fresh : ℕ) (script : Script) (t m next : Tale) → other ≢ name → (stands : RunMoment (host_of drives other fresh) script t m) → MayBeFound m next → LieBehind lines before t
      → LieBehind lines (record { host = other; fresh = fresh; script = script; bytes = stands.bytes } ∷ before) next
  other_behind lines before other fresh script t m next differ stands found lies =
      let h = history_after_all new_history lies.history.es in
      behind_more lines before (record { host = other; fresh = fresh; script = script; bytes = stands.bytes }) t next lies.history [] tt (inr (differ, refl)) lies.lie
      (ends drives name made of_table h m next found (stands_elsewhere drives name other 0 fresh differ h t m stands.home lies.history.stands))
