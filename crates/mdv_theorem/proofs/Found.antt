-- What each table has that a boot may find at the start of a run, behind the earlier ones: a volume of which a line was told that it was made.
use Rattle.std.proofs.Common.{◌≡◌, inl, inr, ℕ, Bool, List, [], ◌∷◌, ◌++◌, Option, if◌then◌else◌, Contains, refl, sym, ◌∙◌, ap, subst}
use Rattle.std.proofs.lemmas.Slice.Eq.{bytes_eq-Decides}
use Rattle.mdv_base.specs.declared.name.Key.{Key}
use Rattle.mdv_base.specs.declared.name.Key.TheVariants.{Local}
use Rattle.mdv_base.specs.declared.name.VolId.{VolId}
use Rattle.mdv_engine_law.specs.Line.{Ask, ToDo, asked_by}
use Rattle.mdv_engine_law.specs.Replies.{AcksBy, ok_line}
use Rattle.mdv_engine_law.specs.declared.host.Host.{Host}
use Rattle.mdv_engine_law.proofs.Going.{may_course}
use Rattle.mdv_name.specs.declared.geometry.Geometry.{Geometry}
use Rattle.mdv_run_law.specs.Lives.{BlocksAre, IsLife, Ran}
use Rattle.mdv_run_law.specs.Standing.{IsWanting}
use Rattle.mdv_run_law.proofs.Coming.{no_ok, one_asked}
use Rattle.mdv_run_law.proofs.Living.{blocks_hold}
use Rattle.mdv_shelf.specs.Everywhere.{Image}
use Rattle.mdv_shelf.specs.Tale.{Tale}
use Rattle.mdv_store_law.specs.Log.{IsLog, Log}
use Rattle.mdv_store_law.proofs.Logs.{empty_is_log}
use Rattle.mdv_store_law.proofs.Machine.{after_more}
use Rattle.mdv_config.specs.Slices.{IsSound}
use Rattle.mdv_volumes.specs.Databases.{log_of}
use Rattle.mdv_volumes.specs.Happening.{HasRange, IsCourse, MayHappen, told_by}
use Rattle.mdv_volumes.specs.History.{Deed, Event, History, history_after, history_after_all}
use Rattle.mdv_volumes.specs.HistoryLaws.{KeepDatabase, KeepVolume, new_history}
use Rattle.mdv_volumes.proofs.Made.{HasFront}
use Rattle.mdv_volumes.proofs.Databases.{is_log_of}
use Rattle.mdv_volumes.proofs.Found.{AreLasting}
use Rattle.mdv_volumes.proofs.Lasting.{still_logs}
use Rattle.mdv_volumes.proofs.Lists.{course_front, course_rest}
use Rattle.mdv_words.specs.Line.{Exec}
use Rattle.mdv_words.specs.declared.command.Command.{Command}
use Rattle.mdv_theorem.specs.Exchanges.{Asks, Exchange, IsTold, exchanges_by}
use Rattle.mdv_theorem.specs.Words.{KeepsDatabase}
use Rattle.mdv_theorem.proofs.Lined.{AreLined, AreOfReply, AreReplied, IsLinedAt, host, lined_at, lined_lives, runs_lined}
use Rattle.mdv_theorem.proofs.Lines.{never_in}
use Rattle.mdv_theorem.proofs.Ranges.{range_lasts}

module _ (drives : Geometry) (name : List ℕ) (made : Image) (before : List Ran) (t : Tale) (sound : IsSound drives) (of_table : Contains drives.hosts name) (life : IsLife drives made before t) where
  abbrev own : Host
  own = host drives name

  abbrev own_key : Key
  own_key = Local name

  abbrev pub its : BlocksAre drives name made before t
  its = blocks_hold drives name made before t of_table life

  abbrev pub es : List Event
  es = its.history.es

  abbrev pub now : History
  now = history_after_all new_history es

  abbrev pub database : Log
  database = log_of now.databases own_key

  pub its_course : IsCourse own.drives new_history es
  its_course = may_course own new_history es its.history.course

  pub lined : AreLined drives name (exchanges_by name before) es
  lined = runs_lined drives name before es its.history.come

  pub is_log : IsLog own.drives database
  is_log = is_log_of own.drives now.databases t its.history.stands.databases own_key

  -- a volume that was there at some event, where it lay then
  pub range_found : (first later : List Event) (volume : VolId) (at count : ℕ) → es ≡ first ++ later → (range : HasRange own.drives (history_after_all new_history first).databases own_key volume at count) → KeepDatabase own_key later → KeepVolume own_key volume later
      → AreLasting own.drives (λ table. HasFront own.drives volume range.map table) database
  range_found first later volume at count is range keep stay =
      let course = subst (IsCourse own.drives new_history) is its_course in
      let there = history_after_all new_history first in
      let logs = still_logs own.drives new_history first (course_front history_after (MayHappen own.drives) new_history first later course) (λ k. empty_is_log own.drives) in
      let same : now ≡ history_after_all there later = ap (history_after_all new_history) is ∙ after_more history_after new_history first later in
      subst (λ (h : History). AreLasting own.drives (λ table. HasFront own.drives volume range.map table) (log_of h.databases own_key)) (sym same)
      (range_lasts own.drives own_key there later volume at count logs range (course_rest history_after (MayHappen own.drives) new_history first later course) keep stay)

  -- A line that was answered, with its events, where neither it nor a line behind it can have taken the database away.
  module _ (front behind : List Exchange) (one : Exchange) (parts : exchanges_by name before ≡ front ++ one ∷ behind) (reply : List ℕ) (told : IsTold one reply) where
    abbrev pub line_at : IsLinedAt drives name one behind es
    line_at = lined_at drives name front one behind es (subst (λ (l : List Exchange). AreLined drives name l es) parts lined)

    pub replied : AreReplied drives name one.text reply line_at.own
    replied = subst (λ (r : Option (List ℕ)). AreOfReply drives name one.text r line_at.own) told line_at.of_line

    pub rest_keeps : KeepsDatabase (one ∷ behind) → KeepDatabase own_key (line_at.own ++ line_at.later)
    rest_keeps keeps = lined_lives drives name (one ∷ behind) (line_at.own ++ line_at.later) ([], line_at.own, line_at.later, refl, (λ deed has. never_in deed has), line_at.of_line, line_at.of_between) keeps

  -- what it asked
  pub asked_at : (one : Exchange) (reply : List ℕ) (spelled : Command) (here : List Event) → Asks one spelled → (IsWanting reply → ⊥) → (are : AreReplied drives name one.text reply here) → are.ask ≡ asked_by own spelled
  asked_at one reply spelled here asks sated are = elim are.asks [
    | inl is ↦ one_asked own one.text are.ask (asked_by own spelled) is (inr (Exec spelled, asks, refl))
    | inr none ↦ absurd (sated none.1)
  ]

  pub ok_sated : IsWanting ok_line → ⊥
  ok_sated wanting = no_ok ok_line wanting ((bytes_eq-Decides ok_line ok_line).1 refl)

  -- what the `ok` of a command acknowledges is that deed
  abbrev IsAckedAs : Command → Deed → Type 0
  IsAckedAs spelled deed = (done : List Deed) → AcksBy (asked_by own spelled) ok_line done → AcksBy (ToDo deed) ok_line done

  -- `ok` told the deed that it asked
  pub deed_told : (one : Exchange) (spelled : Command) (deed : Deed) (here : List Event) → IsAckedAs spelled deed → Asks one spelled → AreReplied drives name one.text ok_line here → told_by here ≡ deed ∷ []
  deed_told one spelled deed here is asks are =
      let acks : AcksBy (ToDo deed) ok_line are.done = is are.done (subst (λ (a : Ask). AcksBy a ok_line are.done) (asked_at one ok_line spelled here asks ok_sated are) are.acks) in
      are.tells ∙ acks ∙ ap (λ (ok : Bool). if ok then deed ∷ [] else []) ((bytes_eq-Decides ok_line ok_line).1 refl)
